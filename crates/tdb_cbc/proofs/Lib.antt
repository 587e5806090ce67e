pub mod BlockLaws
pub mod CbcLaws
pub mod PaddingLaws
