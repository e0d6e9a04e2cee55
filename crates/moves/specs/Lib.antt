pub mod Moved
pub mod Cells
pub mod First
pub mod Last
pub mod ByKind
pub mod Read
pub mod Front
pub mod Lent
