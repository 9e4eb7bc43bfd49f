pub mod TextLemmas
pub mod PageLemmas
pub mod AddedLemmas
pub mod ModuleLemmas
pub mod FormLemmas
