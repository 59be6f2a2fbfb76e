pub mod Rooms
pub mod Workers
pub mod Laws
