pub mod Meaning
pub mod Known
pub mod Asked
pub mod Told
pub mod Walked
pub mod Laws
