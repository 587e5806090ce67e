pub mod BareState
pub mod Chunk
pub mod Told
pub mod ChangedCause
