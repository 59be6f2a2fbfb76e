pub mod Texts
pub mod Checking
pub mod Analysing
pub mod Splitting
pub mod Laws
