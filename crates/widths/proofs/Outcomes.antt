-- What an outcome is, by the tests on the way to it. Assumes nothing.
use Prim.Native.Nat.{ℕ, ◌≤◌, ◌<◌}
use mathlib.Core.Path.{◌≡◌, refl}
use mathlib.Core.Bool.{Bool, true, false, cond}
use mathlib.Core.List.{List}
use native.Mathlib.Omega.{arith}
use borrow.Author.Tests.{lt-ltb, le-ltb, ltb-false}
use lib.Dec.{ltb}
use lib.ListN.{length}
use Rattle.refusals.specs.Numbers.{number_of, accepted, list_room, wide_number}
use Rattle.lists.specs.Over.{over}
use Rattle.widths.specs.Answer.{with_count}
use Rattle.widths.specs.Widths.{first_wide, refused, copied, widen_of, narrow_of}

module _ (xs ys : List ℕ) where
  -- ---- widening
  pub widen_short : length ys < length xs → refused ys (number_of list_room) 0 ≡ widen_of xs ys
  unfolding widen_of
  widen_short h = rw (lt-ltb (length ys) (length xs) h)

  pub widen_is : length xs ≤ length ys → widen_of xs ys ≡ copied xs ys
  unfolding widen_of
  widen_is h = rw (le-ltb (length ys) (length xs) h)

  pub widen_done : length xs ≤ length ys → {v : List ℕ} → v ≡ over xs ys → record { answer = with_count (length xs); list = v } ≡ widen_of xs ys
  widen_done h e = rw (widen_is h, e)

  pub widened : (widen_of xs ys).answer.number ≡ number_of accepted → length xs ≤ length ys
  unfolding widen_of
  widened e = go (ltb (length ys) (length xs)) (ltb-false (length ys) (length xs)) e
    where
      go : (b : Bool) → (b ≡ false → length xs ≤ length ys) → (cond b (refused ys 17 0) (copied xs ys)).answer.number ≡ 0 → length xs ≤ length ys
      go true h e = absurd (omega (arith, e))
      go false h e = h refl

  -- ---- narrowing
  pub narrow_short : length ys < length xs → refused ys (number_of list_room) 0 ≡ narrow_of xs ys
  unfolding narrow_of
  narrow_short h = rw (lt-ltb (length ys) (length xs) h)

  module _ (h : length xs ≤ length ys) where
    pub narrow_wide : {i : ℕ} → i ≡ first_wide xs → i < length xs → refused ys (number_of wide_number) i ≡ narrow_of xs ys
    unfolding narrow_of
    narrow_wide {i} e l = rw (le-ltb (length ys) (length xs) h, ← e, lt-ltb i (length xs) l)

    pub narrow_is : length xs ≤ first_wide xs → narrow_of xs ys ≡ copied xs ys
    unfolding narrow_of
    narrow_is l = rw (le-ltb (length ys) (length xs) h, le-ltb (first_wide xs) (length xs) l)

    pub narrow_done : length xs ≤ first_wide xs → {v : List ℕ} → v ≡ over xs ys → record { answer = with_count (length xs); list = v } ≡ narrow_of xs ys
    narrow_done l e = rw (narrow_is l, e)

  pub narrowed : (narrow_of xs ys).answer.number ≡ number_of accepted → (length xs ≤ length ys) × (length xs ≤ first_wide xs)
  unfolding narrow_of
  narrowed e = go (ltb (length ys) (length xs)) (ltb-false (length ys) (length xs)) (ltb (first_wide xs) (length xs)) (ltb-false (first_wide xs) (length xs)) e
    where
      go : (b : Bool) → (b ≡ false → length xs ≤ length ys) → (d : Bool) → (d ≡ false → length xs ≤ first_wide xs)
          → (cond b (refused ys 17 0) (cond d (refused ys 18 (first_wide xs)) (copied xs ys))).answer.number ≡ 0 → (length xs ≤ length ys) × (length xs ≤ first_wide xs)
      go true h d l e = absurd (omega (arith, e))
      go false h true l e = absurd (omega (arith, e))
      go false h false l e = (h refl, l refl)
