pub mod Words
pub mod Head
pub mod ListCells
pub mod PlaceCells
pub mod Encodes
pub mod Order
pub mod Page
pub mod inner
