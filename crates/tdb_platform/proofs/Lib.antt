pub mod Counting
pub mod Doing
pub mod Leaving
pub mod Lefts
pub mod Logging
pub mod Moments
pub mod Overwriting
pub mod Refilling
