pub mod Cat
pub mod Losing
pub mod Selecting
pub mod Texts
