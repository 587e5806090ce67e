pub mod Blocks
pub mod Cbc
pub mod LastBlock
pub mod Padding
pub mod Sealed
