-- For the layers above: `Facts`, demand 3 of a run, and `Whole`, what is drawn.
pub mod Whole
pub mod Facts
