pub mod Words
pub mod TableSpelling
pub mod EntrySpelling
pub mod NodeSpelling
pub mod LeaderSpelling
