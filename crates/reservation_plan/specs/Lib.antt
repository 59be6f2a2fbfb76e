pub mod Conflicts
pub mod Derived
pub mod Drafting
pub mod Ends
pub mod Judging
pub mod Laws
