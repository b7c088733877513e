pub mod Ands
mod Cleared
pub mod Steps
