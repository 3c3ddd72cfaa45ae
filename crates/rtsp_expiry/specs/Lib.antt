pub mod Sweeps
pub mod Endings
pub mod Emptying
