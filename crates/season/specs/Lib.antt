pub mod Cells
pub mod Cell
pub mod Goods
pub mod Range
pub mod Squares
pub mod Season
