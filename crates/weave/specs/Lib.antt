-- `Points` is the joints of a run with their legs, point by point; `Walk` what a pass along them begins with and does, `Laws` that it keeps to what along's `Pen` asks.
pub mod Points
pub mod Walk
pub mod Laws
