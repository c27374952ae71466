-- `Run` is what a run draws; `Facts` is demand 3's numbers of a run.
pub mod Run
pub mod Facts
