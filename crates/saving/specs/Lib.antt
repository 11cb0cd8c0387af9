pub mod Lengths
pub mod Saving
