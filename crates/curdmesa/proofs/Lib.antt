pub mod CatLemmas
pub mod SelectLemmas
pub mod TextLemmas
