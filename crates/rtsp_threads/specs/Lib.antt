pub mod Looks
pub mod Leaving
pub mod Ending
pub mod Silence
pub mod Waits
