pub mod SameField
pub mod SameText
