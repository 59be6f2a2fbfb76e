pub mod Arguments
pub mod Forms
pub mod Texts
pub mod InPlace
