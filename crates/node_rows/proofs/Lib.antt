pub mod GrowLaws
pub mod KindLaws
pub mod RankLaws
pub mod StepLaws
