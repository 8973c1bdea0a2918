pub mod Adequacy
pub mod Honest
pub mod Tellings
pub mod Outcomes
