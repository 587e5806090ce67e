pub mod Fields
pub mod LineLaws
pub mod NoteLaws
pub mod Spacing
