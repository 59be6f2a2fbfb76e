pub mod Courses
pub mod Steps
pub mod Parts
pub mod Laws
pub mod Stops
