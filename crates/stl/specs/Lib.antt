-- In the request's order: `Bytes` and `File` are the file, `Corner` what a corner may be, `Write` and `Read` what the two calls come to, `Back` that the one
-- undoes the other; `Each` and `Answer` serve them.
pub mod Answer
pub mod Back
pub mod Bytes
pub mod Corner
pub mod Each
pub mod File
pub mod Read
pub mod Write
