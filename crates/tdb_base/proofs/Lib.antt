pub mod FieldLemmas
pub mod SameFields
pub mod SegmentLemmas
pub mod Tracing
