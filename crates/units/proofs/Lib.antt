pub mod Tests
pub mod Bits
pub mod Sets
pub mod Addresses
pub mod Touch
pub mod Unions
