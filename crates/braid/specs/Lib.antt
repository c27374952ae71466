-- `Weave` is a run's triangles, the strip's with arcs between them; `Round` those of W-209's runs and of the round empty cap.
pub mod Weave
pub mod Round
