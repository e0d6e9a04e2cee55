pub mod Newest
pub mod Going
pub mod Meet
