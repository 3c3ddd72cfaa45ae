pub mod Places
pub mod Living
pub mod Keeping
pub mod Heads
pub mod Watermark
