pub mod Found
pub mod Marks
pub mod Places
pub mod Refutations
pub mod Searching
pub mod Steps
