pub mod Counts
pub mod Formed
pub mod Sums
pub mod Goes
