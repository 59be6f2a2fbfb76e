pub mod Serving
pub mod Alone
pub mod Laws
