-- `Woven` is demand 3 of a run from that of its strip; `Rounds` that it holds of every open and closed run, `Tallies` the counts, `Square` the round empty cap.
pub mod Woven
pub mod Rounds
pub mod Tallies
pub mod Square
