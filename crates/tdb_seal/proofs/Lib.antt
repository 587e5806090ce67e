pub mod RecordSpelling
