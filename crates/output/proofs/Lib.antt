pub mod Chain
pub mod Pour
