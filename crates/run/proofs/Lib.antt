pub mod Examples
pub mod Reaching
pub mod Events
pub mod Turns
pub mod LoopBound
pub mod Following
pub mod Cutting
pub mod MoreTurns
pub mod Padding
pub mod EmptyRecord
pub mod Settings
pub mod Equality
mod FittingNames
mod FittingEnvironment
pub mod Fitting
