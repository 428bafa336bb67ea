pub mod ClientSdkLaws
pub mod DebugLaws
pub mod DebugMetas
pub mod Equal
pub mod EqualImages
pub mod EqualParts
pub mod Moments
pub mod TableLaws
