pub mod Book
pub mod inner
