pub mod RefusedRanges
