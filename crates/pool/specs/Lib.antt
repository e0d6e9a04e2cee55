pub mod Chain
pub mod Answers
pub mod Words
