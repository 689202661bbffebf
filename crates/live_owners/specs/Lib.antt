pub mod Exchanges
pub mod Owners
pub mod inner
