pub mod Given
pub mod Left
pub mod Refusals
pub mod Shown
pub mod Timed
