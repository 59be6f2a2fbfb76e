pub mod Shown
pub mod Kept
pub mod Held
pub mod Found
