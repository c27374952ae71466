-- The proofs of the window. For the layers above: `Laws` and `Examples`.
pub mod Laws
pub mod Examples
-- below these: three slots used in turn
pub mod Slots
