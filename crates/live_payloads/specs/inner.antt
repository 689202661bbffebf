pub mod Pages
pub mod Moves
