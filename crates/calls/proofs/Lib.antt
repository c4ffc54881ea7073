pub mod Mark
pub mod StateRule
pub mod Relied
pub mod Regained
pub mod WorkedCall
