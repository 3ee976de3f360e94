-- What private contracts and proofs of a run use beside the definitions of the theorem.
pub mod Asks
pub mod ByStatus
pub mod Course
pub mod Devices
pub mod Joined
pub mod Kept
pub mod Plans
pub mod Readings
pub mod Segments
