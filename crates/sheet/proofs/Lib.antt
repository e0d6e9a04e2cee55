pub mod Promises
pub mod Copies
