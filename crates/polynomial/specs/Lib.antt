pub mod Lists
pub mod Sums
pub mod Polynomials
pub mod Interpolation
pub mod OnePass
pub mod Columns
