pub mod Derive
pub mod Hmac
pub mod MacState
