pub mod IntervalLemmas
pub mod KeyLemmas
pub mod ListedLemmas
pub mod RankLemmas
