pub mod Gots
pub mod Laws
pub mod Spelling
