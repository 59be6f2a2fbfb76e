pub mod Ends
pub mod Steps
pub mod Nodes
pub mod Serving
pub mod Closing
pub mod Laws
