-- the lines that were read, and their nodes
pub mod Growing
pub mod Placed
pub mod ByLines
pub mod Forests
pub mod AreRead
pub mod OneMore
pub mod Accepted
-- the steps of the reader and of the writer
pub mod Places
pub mod Roots
pub mod Writing
-- the places of nodes, by their ids
pub mod Standing
pub mod Located
pub mod IdPlaces
pub mod IdsRead
-- what is written is read back
pub mod Texts
pub mod Written
pub mod WrittenNodes
pub mod TreeRead
pub mod Back
-- faults by their texts
pub mod FaultBack
-- worked examples
mod Rows
