pub mod CommitChain
pub mod CommitFormat
pub mod CommitText
pub mod TextOfDigest
pub mod Unforged
