pub mod Plan
pub mod Sinks
pub mod Takers
pub mod Written
