pub mod Viewing
pub mod Rules
pub mod Writing
pub mod Opening
pub mod Spares
