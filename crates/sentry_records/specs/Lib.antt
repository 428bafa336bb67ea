pub mod LogAttribute
pub mod Logs
pub mod Metrics
pub mod Monitors
pub mod Sampling
pub mod Sessions
pub mod UserReports
