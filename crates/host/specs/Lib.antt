pub mod Calls
pub mod Notes
pub mod Rows
pub mod Answering
