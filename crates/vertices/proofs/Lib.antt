-- For the layers above: `Laws`, how many floats a side and a cap have.
pub mod Laws
