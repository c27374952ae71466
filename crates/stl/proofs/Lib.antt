-- `Corner` has which patterns are finite or zero; `Each` laws of rows, written one behind the other, and of the first that is not fine; `Start` a list
-- put over the start of another; `Outcomes` what the two calls come to, test by test; `Words` a file's words behind what stands before them; `Back` that reading gives back what was written.
pub mod Back
pub mod Corner
pub mod Each
pub mod Outcomes
pub mod Start
pub mod Words
