pub mod Places
pub mod Looking
pub mod Heeding
pub mod Drafting
pub mod Joined
pub mod Decisions
pub mod Logged
