pub mod BulkLaws
pub mod EmptyLaws
pub mod LeastLaws
pub mod PageLaws
pub mod Places
