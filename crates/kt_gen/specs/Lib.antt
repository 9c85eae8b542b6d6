pub mod Texts
pub mod Numbers
pub mod Jobs
pub mod Trees
