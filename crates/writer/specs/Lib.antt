pub mod Texts
pub mod Papers
pub mod Laws
