pub mod JobReplies
pub mod Endings
pub mod OneAnswer
pub mod FewWorkers
pub mod FitSizes
pub mod Records
pub mod Counts
pub mod Completed
