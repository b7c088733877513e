pub mod Any
pub mod Holding
