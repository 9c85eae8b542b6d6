pub mod Forms
pub mod RowTexts
pub mod PrintedTexts
