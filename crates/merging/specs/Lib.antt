pub mod Searched
pub mod Leading
pub mod Declaring
