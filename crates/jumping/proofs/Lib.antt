pub mod Telling
pub mod Fits
pub mod Optional
pub mod OneJump
pub mod Looping
pub mod WorkedThrow
pub mod WorkedReturn
