-- `Dashed`: what is drawn of the dashes of a run; `Passes`: what the passes along them need and do.
pub mod Dashed
pub mod Passes
