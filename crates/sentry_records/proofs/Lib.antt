pub mod Attributes
pub mod Equal
pub mod Schedules
pub mod SessionsEqual
pub mod TableLaws
