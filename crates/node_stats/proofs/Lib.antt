pub mod EntryLaws
pub mod FractionLaws
pub mod NumberTextLaws
pub mod StatsTextLaws
pub mod TallyLaws
pub mod TallySums
pub mod VisitLaws
