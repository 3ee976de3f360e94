mod CommandLemmas
pub mod JobLemmas
pub mod FaultBack
mod Examples
mod OptionSteps
mod Defaults
mod OrdinaryWalk
pub mod OrdinaryLaw
pub mod Fitting
