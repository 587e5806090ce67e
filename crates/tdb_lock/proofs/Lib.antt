pub mod ClaimOrder
pub mod Conflicts
pub mod Exclusion
pub mod Granting
