pub mod Known
pub mod Passing
pub mod Sources
pub mod Reading
