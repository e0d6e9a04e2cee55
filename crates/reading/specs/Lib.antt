pub mod Making
pub mod Steps
pub mod Surveying
pub mod Building
pub mod Judged
