pub mod Links
pub mod Worlds
pub mod Stepping
pub mod Begun
pub mod Ended
