-- `Items` is what a round run's pieces are as braid's items, `Counts` how many vertices and triangles it has.
pub mod Items
pub mod Counts
