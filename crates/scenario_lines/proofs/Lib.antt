pub mod Shapes
pub mod Back
pub mod Spoken
pub mod InPlaces
