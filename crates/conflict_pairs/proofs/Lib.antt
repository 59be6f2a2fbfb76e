pub mod Deciding
pub mod Passing
