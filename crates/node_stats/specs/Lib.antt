pub mod Fractions
pub mod LevelCounts
pub mod Stats
pub mod Stays
pub mod StatsText
pub mod Visits
pub mod inner
