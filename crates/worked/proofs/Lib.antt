pub mod WorkedPromise
pub mod Orders
