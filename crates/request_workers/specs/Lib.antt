pub mod Histories
pub mod Handing
pub mod Serving
pub mod Opening
pub mod Taking
