pub mod Effect
pub mod Start
pub mod Step
