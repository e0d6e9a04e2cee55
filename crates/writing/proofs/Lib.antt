pub mod TreeBytes
pub mod Walks
pub mod Writing
pub mod Lengths
