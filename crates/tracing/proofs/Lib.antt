pub mod Dimming
pub mod Reading
pub mod Rounds
pub mod Reaching
