pub mod Behind
pub mod Desks
pub mod Lent
pub mod GrowthLemmas
