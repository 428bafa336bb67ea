pub mod Alone
pub mod FaultTrees
pub mod HeaderIds
pub mod MendedItems
pub mod Times
pub mod Told
