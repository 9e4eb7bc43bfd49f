pub mod KindLaws
pub mod KeyLaws
pub mod TableLaws
pub mod NeighbourLaws
pub mod RankLaws
pub mod StepLaws
pub mod WalkLaws
pub mod Shared
