pub mod Assigning
pub mod Learned
pub mod Models
pub mod Refuting
pub mod Search
pub mod Trails
