pub mod Answered
mod AbsoluteSums
pub mod Stands
mod Steps
