pub mod Enumerations
pub mod SampledLaws
pub mod UnitLaws
