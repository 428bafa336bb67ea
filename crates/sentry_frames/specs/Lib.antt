pub mod Causes
pub mod Exceptions
pub mod Frames
pub mod LogEntries
pub mod Mechanisms
pub mod ThreadIds
pub mod Threads
