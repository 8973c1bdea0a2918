pub mod Answers
pub mod Grids
pub mod Ledger
pub mod Banks
pub mod Standing
pub mod Books
pub mod Views
