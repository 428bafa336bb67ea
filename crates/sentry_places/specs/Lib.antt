pub mod Honest
pub mod Needed
pub mod Spliced
pub mod Words
