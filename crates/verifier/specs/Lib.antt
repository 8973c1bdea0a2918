pub mod Calls
pub mod Pointed
pub mod Notes
pub mod Judging
