pub mod Entry
pub mod ChangeList
