pub mod Sweeping
pub mod Timing
