pub mod Held
pub mod Edits
