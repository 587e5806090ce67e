pub mod Drawn
pub mod NotesMachine
pub mod Script
pub mod SessionState
pub mod Shown
