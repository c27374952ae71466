-- "as each other's inverses": what one call put into a list, the other gives back. That it holds is proofs/Back.antt. Assumes nothing.
use Rattle.std.specs.Prelude.{ℕ, ◌≤◌, ◌<◌, ◌≡◌, List, [], ◌∷◌, length, take}
use Rattle.refusals.specs.Numbers.{number_of, accepted}
use Rattle.widths.specs.Widths.{Outcome, copied, widen_of, narrow_of}

-- a u16 holds each of them
abbrev pub AreNarrow : List ℕ → Type 0
AreNarrow [] = Unit
AreNarrow (x ∷ xs) = (x < 65536) × AreNarrow xs

-- the numbers that a call put there
abbrev pub held : Outcome → List ℕ
held o = take o.answer.count o.list

-- A stored list xs, widened into ys: narrowing what is held gives back xs, into whatever list zs has room.
abbrev pub NarrowsBack : List ℕ → List ℕ → Type 0
NarrowsBack xs ys = (held (widen_of xs ys) ≡ xs) × ((zs : List ℕ) → length xs ≤ length zs → narrow_of (held (widen_of xs ys)) zs ≡ copied xs zs)

-- A list xs, narrowed into ys: widening what is held gives back xs.
abbrev pub WidensBack : List ℕ → List ℕ → Type 0
WidensBack xs ys = (held (narrow_of xs ys) ≡ xs) × ((zs : List ℕ) → length xs ≤ length zs → widen_of (held (narrow_of xs ys)) zs ≡ copied xs zs)

-- each undoes the other, wherever it answers 0
pub record Inverse (xs ys : List ℕ) : Type 0 where
  pub narrows : AreNarrow xs → (widen_of xs ys).answer.number ≡ number_of accepted → NarrowsBack xs ys
  pub widens : (narrow_of xs ys).answer.number ≡ number_of accepted → WidensBack xs ys × AreNarrow xs
