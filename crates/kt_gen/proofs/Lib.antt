pub mod TreeTexts
pub mod Rules
pub mod Built
pub mod Rounds
pub mod RowNumbers
pub mod Written
pub mod ReadBack
