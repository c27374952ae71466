-- What is written: `Joint` rule 8's vertices, `Section` and `Triangle` rule 9, `Strip` the same joint by joint, with the contracts' records. Assumes nothing.
pub mod Joint
pub mod Section
pub mod Triangle
pub mod Strip
