pub mod Real
pub mod Signals
pub mod Terminals
pub mod Coding
pub mod Same
pub mod Names
