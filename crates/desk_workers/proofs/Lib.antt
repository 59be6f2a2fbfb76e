pub mod Loads
mod Merging
mod Returns
mod Shifts
mod Eachs
mod Opening
mod Gathering
mod Closing
mod Assigning
mod Tasks
mod Serving
