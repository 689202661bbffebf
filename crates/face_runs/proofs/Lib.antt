pub mod PayloadSteps
pub mod RangeReads
pub mod ReadRuns
pub mod RefusedRanges
pub mod Steps
