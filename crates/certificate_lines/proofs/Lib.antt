pub mod Cuts
pub mod Back
pub mod Again
pub mod Digits
pub mod Each
pub mod Small
