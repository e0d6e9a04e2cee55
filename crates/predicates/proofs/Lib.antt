pub mod Some
pub mod ByKind
pub mod Parts
pub mod Reached
