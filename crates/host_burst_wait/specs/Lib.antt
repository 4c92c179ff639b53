pub mod BurstWait
