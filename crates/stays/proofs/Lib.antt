-- `Never` has what specs/Stays.antt says of one run, `Runs` what it says of all cut runs, `Running` that every mark of a run is inside, `Cutting` one cut: that the
-- divisor is above 0 (`divisor`), the share from 0 to 1 (`share_in`) and the cut inside (`cut_inside`); `Wearing`: the offset's wearing down ends. Below these, what
-- rounding keeps besides `rounding`'s laws (`Order`), and differences and comparisons of floats that are not negative (`Compare`).
pub mod Never
pub mod Runs
pub mod Running
pub mod Cutting
pub mod Wearing
pub mod Compare
pub mod Order
