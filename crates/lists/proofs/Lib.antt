pub mod Cases
pub mod Laws
pub mod Turns
pub mod Joined
pub mod Stands
