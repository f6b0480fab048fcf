pub mod Fields
pub mod Reading
pub mod Meaning
pub mod Writing
