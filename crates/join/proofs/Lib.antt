-- For the reader: `Source`, the source's own routine gives the same sides; `Hairpin`, what a zero normal comes to.
pub mod Source
pub mod Hairpin
