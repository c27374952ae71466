-- `Listing` serves the loop over lines, `Rooms` says that what is counted was lent, `Named` that five digits hold a
-- triangle's numbers, `Laws` what a page is by an answer's number, `Cut` that of lists that are cut to length. `Unique`
-- says that a text has one page.
pub mod Listing
pub mod Rooms
pub mod Named
pub mod Laws
pub mod Cut
pub mod Unique
pub mod Tells
