pub mod Laid
pub mod Pushed
