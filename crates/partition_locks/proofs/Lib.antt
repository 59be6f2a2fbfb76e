mod Rows
mod Blocks
mod Apart
mod Halves
pub mod Queries
mod Counts
mod Spliced
mod Tests
mod Cut
mod Put
mod Counted
pub mod Rooms
pub mod Clips
pub mod Frees
