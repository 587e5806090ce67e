pub mod CachedNodes
pub mod Lending
