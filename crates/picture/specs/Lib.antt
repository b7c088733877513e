pub mod Protection
pub mod Shown
