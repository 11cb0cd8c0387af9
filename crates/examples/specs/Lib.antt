pub mod Blocks
pub mod Gates
pub mod Rows
