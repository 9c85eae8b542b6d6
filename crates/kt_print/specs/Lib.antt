pub mod Rows
pub mod Lines
pub mod CanonicalWords
pub mod CanonicalExpressions
pub mod CanonicalStatements
pub mod CanonicalText
