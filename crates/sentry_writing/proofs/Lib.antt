pub mod Failing
pub mod Joining
pub mod OfTables
pub mod Merging
pub mod RowByRow
pub mod RowsGiven
pub mod ValuesMade
