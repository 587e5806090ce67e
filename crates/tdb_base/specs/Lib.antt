pub mod PieceBytes
pub mod Rose
pub mod Segment
pub mod SuiteNumber
pub mod Trace
