pub mod Tokens
pub mod Readers
pub mod Items
pub mod Marks
pub mod Forms
pub mod Meanings
