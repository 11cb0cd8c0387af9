pub mod NewCells
pub mod Turning
pub mod Starting
pub mod Zeros
