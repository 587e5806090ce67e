pub mod CipherKey
pub mod CipherOf
pub mod InitialVector
pub mod SealedRecord
pub mod SuiteKey
