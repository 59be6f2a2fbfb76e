pub mod Few
pub mod Spans
pub mod Numbers
