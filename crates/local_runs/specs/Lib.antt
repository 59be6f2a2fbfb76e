pub mod Handed
pub mod Alone
pub mod Laws
