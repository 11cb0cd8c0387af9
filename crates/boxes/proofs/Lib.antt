pub mod Shows
pub mod Tunings
