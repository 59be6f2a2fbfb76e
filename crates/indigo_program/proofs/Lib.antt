pub mod Lines
pub mod Runs
pub mod Answered
pub mod Concluded
pub mod Services
pub mod Soaks
