pub mod Document
pub mod Rows
pub mod Screen
pub mod Verdicts
