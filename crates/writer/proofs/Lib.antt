pub mod Small
pub mod Papers
pub mod Texts
pub mod Lines
pub mod Lengths
pub mod Wholes
pub mod Pens
