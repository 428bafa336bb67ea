pub mod Args
pub mod Ending
pub mod Reading
pub mod Run
pub mod Streams
