pub mod Decoding
pub mod Surveys
pub mod DecodingStmts
pub mod Shaping
