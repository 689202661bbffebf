pub mod BackwardLaws
pub mod BytesLeft
pub mod CountLaws
pub mod EntryLaws
pub mod FillLaws
pub mod InsideLaws
mod KeyWalkLaws
pub mod LinkLaws
pub mod NearestLaws
pub mod ScanDownLaws
pub mod ScanLaws
pub mod VisitedLaws
pub mod WalkLaws
pub mod WindowLaws
