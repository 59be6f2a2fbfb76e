pub mod CauseTexts
pub mod Inputs
pub mod Headline
pub mod Finishing
pub mod Running
