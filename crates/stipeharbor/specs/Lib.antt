-- `Calls` is what the exported calls answer and leave in the lent lists, over what the library's calls answer; `Measuring` is those of W-210, `Fragments` those of the radio.
pub mod Calls
pub mod Measuring
pub mod Fragments
