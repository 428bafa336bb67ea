pub mod Measured
pub mod RateLimits
pub mod RetryAfter
