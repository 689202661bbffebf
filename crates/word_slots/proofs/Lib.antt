pub mod Logs
pub mod Issuing
