pub mod Successions
pub mod Pools
pub mod FreeLists
pub mod Pops
pub mod Removals
pub mod Retains
pub mod inner
