-- `Means`: the bytes of a text of the form call for what it means. `Exact`: what is read of a number is the f32 nearest to its exact decimal.
pub mod Exact
pub mod Means
