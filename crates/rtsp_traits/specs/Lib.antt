pub mod Devices
pub mod NoShares
pub mod PortSet
pub mod Has
