pub mod EntrySpelling
pub mod ListSpelling
