-- What is put at a place of a list. Assumes nothing.
use Rattle.std.specs.Prelude.{ℕ, ◌+◌, ◌≡◌, List, ◌++◌, length, take, drop}
use Rattle.lists.specs.Over.{over}

-- xs with ws over its places from k on, as far as it goes
abbrev pub over_from : ℕ → List ℕ → List ℕ → List ℕ
over_from k ws xs = take k xs ++ over ws (drop k xs)

-- ws is put at the place k, and next is the place behind it
pub record Puts (ws : List ℕ) (k : ℕ) (before : List ℕ) (next : ℕ) (after : List ℕ) : Type 0 where
  pub behind : next ≡ k + length ws
  pub list : after ≡ over_from k ws before
