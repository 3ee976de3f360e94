pub mod Rows
pub mod PartsLaws
pub mod ReaderLaws
pub mod FitLaws
pub mod FlatLaws
pub mod Cutting
pub mod GroupLaws
pub mod RangeLaws
pub mod FewWords
pub mod GeneratedLaws
pub mod Odd
pub mod FaultBack
mod WorkedParts
