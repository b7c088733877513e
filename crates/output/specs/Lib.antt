pub mod Puts
pub mod Hex
pub mod Pour
