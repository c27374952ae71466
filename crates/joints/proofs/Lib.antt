-- `Lengths`, how many joints there are, and `Numbered`, that they have their points' numbers, are for the layers above; `Between`, that they follow from the legs alone.
pub mod Lengths
pub mod Numbered
pub mod Between
