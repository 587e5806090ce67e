pub mod Behind
pub mod MapReads
pub mod NewCheckpoint
pub mod NewMap
pub mod NextCheckpoint
