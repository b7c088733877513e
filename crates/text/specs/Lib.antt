pub mod Scan
pub mod Lines
pub mod Fields
pub mod Numbers
