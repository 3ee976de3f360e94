pub mod Copies
pub mod Forks
pub mod Judging
pub mod Rules
pub mod Standing
pub mod Unions
