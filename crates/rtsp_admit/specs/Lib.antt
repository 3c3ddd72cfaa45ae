pub mod Binder
pub mod Steps
pub mod Runs
pub mod Refused
pub mod Addresses
pub mod Faults
pub mod Numbers
pub mod Additions
