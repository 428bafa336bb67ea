pub mod Categories
pub mod ItemTable
pub mod Items
pub mod Reported
pub mod ReportSums
pub mod Reports
pub mod Sums
