pub mod AddsPrefix
pub mod ArchiveContent
pub mod InMemory
pub mod Rose
pub mod SinkContent
pub mod SourceContent
