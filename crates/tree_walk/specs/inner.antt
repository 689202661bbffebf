pub mod Count
pub mod Scan
