pub mod End
pub mod Header
pub mod Item
