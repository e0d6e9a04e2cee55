pub mod Rows
pub mod LastJump
pub mod Notes
pub mod Walks
pub mod VarRows
pub mod Sifting
pub mod BareNames
pub mod KeptVars
