pub mod Locking
pub mod Short
pub mod Sinks
pub mod Smallest
pub mod Sweeps
