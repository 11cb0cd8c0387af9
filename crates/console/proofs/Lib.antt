pub mod Reading
pub mod Holding
pub mod Telling
pub mod Requested
pub mod Answering
