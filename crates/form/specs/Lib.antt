-- `Bytes` is what each byte is to a path text, `Form` which texts have the form, and where one that has not goes wrong. `Machine` is the same byte
-- by byte, for the code; that both are one is proofs/Taken.antt, Parse.antt and Place.antt.
pub mod Bytes
pub mod Form
pub mod Machine
