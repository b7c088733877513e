pub mod Units
pub mod Codes
pub mod Ranges
