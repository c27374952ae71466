-- The proofs of the root. For the layers above: `Laws` (one root, growing with x, exact at squares, close), `Computed` (the root as a
-- function, and what `root` answers as an equation), `Order` (units against the order of floats) and `Bits` (what tells a NaN by its bits).
pub mod Laws
pub mod Computed
pub mod Order
pub mod Bits
pub mod Examples
-- below these: whole numbers (squares, a root's digits, exponents), floats (units, bit patterns, the middles between two), and what each test
-- of `root` tells
pub mod Squares
pub mod Digits
pub mod Exponents
pub mod Units
pub mod Patterns
pub mod Middles
pub mod Answering
