pub mod UnitLemmas
pub mod TimeLemmas
pub mod RangeLemmas
pub mod PrintLemmas
pub mod HeaderLemmas
