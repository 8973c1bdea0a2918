pub mod Fills
pub mod Parts
pub mod Sheets
