-- Laws for whoever writes lists: `Laws` of `over` and `put_at`, `Short` of lists whichever ends first, `Parts` of a part that begins in the middle and is lent to a
-- writer; `All`, of what all elements have.
pub mod Laws
pub mod Short
pub mod Parts
pub mod All
