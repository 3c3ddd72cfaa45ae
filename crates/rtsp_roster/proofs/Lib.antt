pub mod Lining
pub mod Rostering
