pub mod Computed
pub mod Kept
pub mod Limits
pub mod Outside
pub mod Remainder
