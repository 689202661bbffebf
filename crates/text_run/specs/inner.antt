pub mod Answers
pub mod ByRow
pub mod CommandReading
pub mod Parts
pub mod RefusedRanges
pub mod Replied
pub mod Session
