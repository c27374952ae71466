pub mod Asked
pub mod Bytes
pub mod Digits
pub mod Floats
pub mod Numbers
pub mod Placed
pub mod Words
