-- What is written: `Vertex` one vertex and one triangle, `Base` rule 8's vertices, `Cap` the empty square cap.
pub mod Vertex
pub mod Base
pub mod Cap
