pub mod Leader
pub mod Node
pub mod SegmentTable
