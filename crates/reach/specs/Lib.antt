-- `Reach` is W-214's sentence, of the mesh call's own vertex list; `Threshold` is why it holds; `Lengths` is W-209's of arc vertices.
pub mod Reach
pub mod Threshold
pub mod Lengths
