pub mod LinkTold
