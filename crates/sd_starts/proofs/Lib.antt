mod BestOfThree
mod Choice
pub mod OneChoice
mod Refusals
pub mod StartLeaves
mod Working
