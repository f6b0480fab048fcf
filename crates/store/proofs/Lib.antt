pub mod Made
pub mod Runs
pub mod Finding
pub mod Moving
pub mod Freeing
pub mod Putting
pub mod Pruning
pub mod Sorting
