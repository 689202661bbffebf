pub mod ByRow
pub mod CommandLemmas
pub mod Ending
pub mod RefusedRanges
pub mod Replies
pub mod Running
