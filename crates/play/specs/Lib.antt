pub mod Contents
pub mod Memories
pub mod States
pub mod Tellings
pub mod Trials
pub mod Outcomes
pub mod Adequacy
