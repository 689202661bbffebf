pub mod Detail
pub mod EventLine
pub mod inner
