-- For the layers above: none. `Writing`, a run's parts.
pub mod Writing
