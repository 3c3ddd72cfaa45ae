pub mod BitLemmas
pub mod LeastLemmas
pub mod PortLemmas
pub mod ChanLemmas
