pub mod Consequences
pub mod Sameness
pub mod Solver
