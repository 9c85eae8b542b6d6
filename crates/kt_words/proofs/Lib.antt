pub mod PlaceLaws
pub mod FieldLaws
pub mod Packings
pub mod StateLaws
pub mod HeadLaws
pub mod PairLaws
pub mod PostLaws
pub mod AccessLaws
