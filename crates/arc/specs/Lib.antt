-- `Arc` is W-209's arc: its vertices' normals and its triangles.
pub mod Arc
