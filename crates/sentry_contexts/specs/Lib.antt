pub mod Contexts
pub mod Devices
pub mod Programs
pub mod Responses
pub mod Systems
pub mod Telemetry
