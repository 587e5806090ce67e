pub mod Commits
pub mod Complete
pub mod Lines
pub mod NoteWrites
pub mod PartNumbers
pub mod Ran
pub mod Transactions
