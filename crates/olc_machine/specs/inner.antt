pub mod FirstByte
pub mod Happening
pub mod Inside
