pub mod Refusals
pub mod Meanings
pub mod Layers
pub mod Kept
