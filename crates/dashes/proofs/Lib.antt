-- For the layers above: `Turns`, an odd list taken twice over. `Looping` has the turns of the loops, whatever their limit.
pub mod Turns
pub mod Looping
