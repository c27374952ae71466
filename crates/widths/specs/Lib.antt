-- `Answer` is what each case of the answer stands for; `Widths` what both calls come to; `Back` that each undoes the other.
pub mod Answer
pub mod Widths
pub mod Back
