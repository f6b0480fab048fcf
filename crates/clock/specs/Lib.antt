pub mod Becomes
pub mod Entries
pub mod Version
pub mod Frontier
pub mod Matrix
pub mod Sameness
