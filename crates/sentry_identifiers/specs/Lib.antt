pub mod HexId
pub mod DebugId
pub mod CodeDigits
pub mod CodeId
pub mod HexIdTree
pub mod DebugIdTree
pub mod CodeIdTree
pub mod Uuids
