-- `Meets` has what is proved of the contract, and `Examples` worked cases. The others are for the functions and for those who read by parts: `Putting` where
-- an event is written, `Passing` the pass over bytes, `Adding` what events in turn come to, `Heard` which events the bytes of a pass call for.
pub mod Putting
pub mod Passing
pub mod Adding
pub mod Heard
pub mod Meets
pub mod Examples
