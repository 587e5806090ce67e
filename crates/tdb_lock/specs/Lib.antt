pub mod AreExclusive
pub mod Conflict
pub mod HeldLocks
