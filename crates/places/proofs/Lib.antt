pub mod Lay
pub mod Pushes
