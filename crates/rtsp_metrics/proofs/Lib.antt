pub mod Appended
pub mod Grouping
