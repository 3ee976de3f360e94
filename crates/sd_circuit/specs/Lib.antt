pub mod Order
pub mod Definers
pub mod Placing
pub mod Reaching
pub mod Ranks
pub mod Circuits
pub mod Stored
