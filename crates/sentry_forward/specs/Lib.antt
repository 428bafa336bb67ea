pub mod AnyHeader
pub mod FlatMembers
pub mod Forward
pub mod HeaderView
pub mod Places
pub mod Runs
pub mod View
