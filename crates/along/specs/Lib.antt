-- `Points` is a run point by point, `Walk` what a pass along it does, `Strips` what the writers of its strip need; `Pen` is what every pass along a run is held to, and
-- `Laws` that a strip's keeps to it.
pub mod Points
pub mod Walk
pub mod Strips
pub mod Pen
pub mod Laws
