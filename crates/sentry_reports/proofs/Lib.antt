pub mod Alike
pub mod ReportSums
pub mod Sums
pub mod TableLaws
pub mod Words
