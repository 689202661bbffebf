pub mod Charge
pub mod Path
pub mod inner
