pub mod Turning
pub mod Chains
pub mod Measure
pub mod Listing
pub mod Units
pub mod Leaving
pub mod Crediting
pub mod Channeling
