pub mod Pushing
pub mod Told
pub mod Switching
pub mod Discriminant
pub mod Newest
pub mod Fronting
