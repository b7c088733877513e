pub mod Answers
pub mod Bench
pub mod Sheet
