pub mod Shares
pub mod Holdings
