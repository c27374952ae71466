-- `Leg` is rule 3 with the edges of rule 4, `Joint` rules 5 and 7.
pub mod Leg
pub mod Joint
