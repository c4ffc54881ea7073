pub mod Recording
pub mod Start
