pub mod Contents
pub mod Current
pub mod Opened
pub mod Turned
