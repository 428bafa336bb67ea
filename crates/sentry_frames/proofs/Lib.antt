pub mod Equal
pub mod TableLaws
pub mod ThreadIds
