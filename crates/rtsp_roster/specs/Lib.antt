pub mod Lines
pub mod Rosters
pub mod Lends
