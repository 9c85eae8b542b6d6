pub mod Exits
pub mod Totals
pub mod Answers
pub mod Jobs
pub mod Headline
pub mod Laws
