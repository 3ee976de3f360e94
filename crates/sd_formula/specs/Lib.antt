pub mod Dimacs
pub mod Flat
pub mod Formulas
pub mod Steps
pub mod Generated
