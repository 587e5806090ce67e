pub mod ChainLemmas
pub mod DigestLemmas
pub mod FormatLemmas
pub mod TextLemmas
pub mod UnforgedLemmas
