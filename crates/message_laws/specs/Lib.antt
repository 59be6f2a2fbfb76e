pub mod Views
pub mod Heeded
pub mod Laws
