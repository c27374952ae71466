-- `Runs` is the mesh of all runs of a path, cut or not, `Part` what one of them draws of it; `Cursor` and `Passes` are for the passes over its verbs, `Cut` for a run that is cut.
pub mod Runs
pub mod Cursor
pub mod Passes
pub mod Part
pub mod Cut
