pub mod Walked
pub mod Linked
