pub mod PaddedText
pub mod FieldOrder
pub mod FieldOrderLaws
pub mod FieldKind
pub mod TextBytes
pub mod Word
