pub mod Charged
pub mod Computed
pub mod inner
