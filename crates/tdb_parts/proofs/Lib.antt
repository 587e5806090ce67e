pub mod Parents
pub mod CauseLemmas
pub mod TellLemmas
pub mod DifferenceLemmas
