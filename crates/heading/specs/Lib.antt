pub mod Cases
pub mod Fronts
