pub mod Decisions
pub mod Kinds
pub mod Turns
