pub mod LineSpelling
pub mod LineValue
pub mod NoteText
pub mod ReplySpelling
