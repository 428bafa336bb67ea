pub mod EventLaws
pub mod FingerprintForms
pub mod FingerprintLaws
