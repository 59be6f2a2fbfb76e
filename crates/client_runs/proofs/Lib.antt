pub mod Joined
pub mod Asked
pub mod Counted
