pub mod Arithmetic
pub mod Conversion
pub mod Counter
pub mod Delay
pub mod Examples
pub mod Gates
pub mod Limiter
