pub mod Objects
pub mod Pickle
pub mod Keys
pub mod ClassName
pub mod AppLaws
