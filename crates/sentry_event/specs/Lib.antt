pub mod Events
pub mod Fingerprints
pub mod Spans
pub mod Transactions
