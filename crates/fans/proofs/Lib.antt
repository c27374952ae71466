-- `Wefts` is for whoever writes one behind the other; `Sizes` how many vertices and triangles arcs and fans have.
pub mod Wefts
pub mod Sizes
