pub mod Tables
pub mod LoopRows
pub mod TableEvents
pub mod TableLaws
pub mod TableEnabled
pub mod TableTheory
