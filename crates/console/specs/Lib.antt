pub mod Inputs
pub mod Requests
pub mod Lines
pub mod Asked
pub mod Sessions
pub mod Promises
