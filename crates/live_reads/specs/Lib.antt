pub mod Paths
pub mod Sees
pub mod Positions
pub mod Mismatches
pub mod Meetings
pub mod Roots
