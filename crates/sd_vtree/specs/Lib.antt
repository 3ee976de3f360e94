pub mod Numbered
pub mod NumberedCode
pub mod Lowest
pub mod NumberedMoves
pub mod Stored
pub mod Built
