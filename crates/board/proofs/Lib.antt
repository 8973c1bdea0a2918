pub mod Fills
pub mod Fronts
pub mod Grids
pub mod Ledgers
pub mod Opens
pub mod Traces
