pub mod Listed
pub mod Reading
pub mod Records
pub mod Stored
