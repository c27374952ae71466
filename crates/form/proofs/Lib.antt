-- `Taken` is from the form to the machine, `Parse` the way back; `Place` says where the machine stops, and `Unique` that there is one such place.
-- `Bytes` is for `class_of`.
pub mod Taken
pub mod Bytes
pub mod Parse
pub mod Place
pub mod Unique
