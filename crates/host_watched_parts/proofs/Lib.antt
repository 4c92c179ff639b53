pub mod Unless
