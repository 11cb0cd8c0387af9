pub mod Reals
pub mod Cleanings
pub mod Codings
