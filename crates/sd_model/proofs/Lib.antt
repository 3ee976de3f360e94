-- facts that crates above cite
pub mod Determined
pub mod OverVtree
pub mod SeenLemmas
pub mod Order
pub mod Numbers
pub mod Changed
pub mod Difference
pub mod Dependence
pub mod Blend
pub mod Valued
pub mod Parity
pub mod FileValues
pub mod Valuations
-- uniqueness
pub mod Partition
pub mod Members
pub mod Unique
-- texts, sizes and moves
pub mod Adding
pub mod ClosedLists
pub mod RootLast
pub mod Words
pub mod PlainTexts
pub mod TextBack
mod NodeSteps
mod TextSteps
mod SizeSteps
mod Moving
-- worked examples
mod CanonicalByCases
mod WorkedDiagrams
mod WorkedTrees
mod WorkedFormulas
mod WorkedCanonical
mod WorkedCircuits
