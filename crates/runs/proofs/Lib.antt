-- For the layers above: `Runs`, laws of runs one behind the other, with the bounds of their counts. `Lines` is what is drawn of a run's dashes, `Cutting` a run that is
-- cut or not; `Passing` is how far a pass over the verbs has come, `Drawing` what it has done, and `Seeing` what it has seen of one run.
pub mod Runs
mod Lines
mod Cutting
mod Passing
mod Drawing
mod Seeing
