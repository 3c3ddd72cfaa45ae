pub mod Bytes
pub mod Times
pub mod Ranges
pub mod Reading
pub mod Units
pub mod Printed
pub mod Laws
