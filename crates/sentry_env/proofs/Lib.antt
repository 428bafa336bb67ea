pub mod CallLemmas
pub mod RunLemmas
pub mod OutcomeLemmas
