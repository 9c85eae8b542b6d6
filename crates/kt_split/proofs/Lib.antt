pub mod DealtLemmas
pub mod CutLemmas
