pub mod FaultNumbers
pub mod Models
pub mod Loaded
pub mod Walks
pub mod Built
