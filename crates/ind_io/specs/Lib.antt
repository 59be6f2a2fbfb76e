pub mod Causes
pub mod Streams
pub mod Calls
pub mod Memory
pub mod Standard
