pub mod Breadcrumbs
pub mod ClientSdk
pub mod DebugImages
pub mod Debugging
pub mod Requests
pub mod Users
