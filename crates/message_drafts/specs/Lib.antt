pub mod Fronts
pub mod Drafts
pub mod Taking
