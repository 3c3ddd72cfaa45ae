pub mod Exchanging
pub mod Telling
pub mod Marks
