pub mod Bits
pub mod Pools
