pub mod Judgements
pub mod Stands
