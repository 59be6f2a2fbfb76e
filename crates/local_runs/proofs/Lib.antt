pub mod Sendings
pub mod Rising
pub mod Hearing
pub mod Bare
pub mod Together
pub mod Counted
pub mod Numbered
