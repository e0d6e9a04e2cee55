pub mod Sequences
pub mod Made
pub mod LastItem
pub mod WayToLast
pub mod Negated
pub mod Pending
pub mod Lengths
