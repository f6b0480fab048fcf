pub mod Becoming
pub mod Ids
pub mod Entrywise
pub mod Matrices
pub mod Listing
