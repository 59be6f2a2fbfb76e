pub mod Joined
pub mod Gathered
pub mod Arguments
pub mod Heads
