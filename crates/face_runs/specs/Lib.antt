pub mod Calls
pub mod Conversion
pub mod PayloadCalls
pub mod U64Calls
pub mod inner
