pub mod Lines
pub mod Sheets
pub mod Readings
pub mod Laws
