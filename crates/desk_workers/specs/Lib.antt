pub mod Workers
pub mod Interleaving
pub mod Standing
pub mod Places
