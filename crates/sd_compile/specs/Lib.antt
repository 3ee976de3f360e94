pub mod Joined
pub mod Total
pub mod Compiling
