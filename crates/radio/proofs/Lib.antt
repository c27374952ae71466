-- `Meets` has what is proved of the calls together: a text comes to what `Hears` allows, and to nothing else. `Division`: however it is divided, the answer and
-- the path are those of the reader of whole texts. The others are for these and for the functions: `Fragment`, the bytes of a fragment within the limit, at it
-- and behind it; `Limit`, the byte at it; `Since`, the number that a text is in; `Ends`, which events ended before a place; `Held`, that these are what the bytes call for.
pub mod Fragment
pub mod Division
pub mod Since
pub mod Limit
pub mod Ends
pub mod Held
pub mod Meets
