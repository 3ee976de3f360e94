pub mod Among
pub mod Callers
pub mod Early
pub mod Keeping
