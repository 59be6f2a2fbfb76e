pub mod Items
pub mod Literals
pub mod Forms
pub mod Texts
