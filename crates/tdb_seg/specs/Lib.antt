pub mod Inside
pub mod InsideLaws
pub mod SegmentSpace
pub mod SpaceCode
pub mod TableSpace
