pub mod EndSpelling
pub mod HeaderSpelling
pub mod ItemSpelling
