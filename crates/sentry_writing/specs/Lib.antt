pub mod Failing
pub mod Given
pub mod Joined
pub mod Lent
pub mod Listed
pub mod Merged
pub mod Sinks
