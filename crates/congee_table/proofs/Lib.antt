pub mod GroupLaws
pub mod IndexLaws
pub mod RowsLaws
pub mod RunLaws
pub mod Writes
