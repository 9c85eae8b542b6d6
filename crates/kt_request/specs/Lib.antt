pub mod Notes
pub mod Reports
pub mod Serving
