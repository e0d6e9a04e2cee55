pub mod Needs
pub mod LastItem
pub mod Pending
