pub mod Placing
pub mod PlacingLaws
pub mod Ranges
pub mod UsedWords
