pub mod Searches
pub mod Lookups
pub mod Measures
pub mod Codes
pub mod Plain
pub mod Ports
