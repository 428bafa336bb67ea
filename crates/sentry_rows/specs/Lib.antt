pub mod Cased
pub mod Copied
pub mod Fields
pub mod NoRows
pub mod Parts
pub mod Passed
pub mod Taken
