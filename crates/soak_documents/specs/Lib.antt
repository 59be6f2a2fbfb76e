pub mod Stock
pub mod Generating
pub mod Counting
pub mod Totals
pub mod Summary
