pub mod Letters
pub mod Webs
pub mod Passing
pub mod Ends
pub mod Beginning
pub mod Settling
