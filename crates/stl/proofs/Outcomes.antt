-- What the two calls come to, by what their tests found. Assumes nothing.
use Prim.Native.Nat.{ℕ, ◌*◌, ◌/◌, ◌≤◌, ◌<◌}
use mathlib.Core.Path.{◌≡◌, refl, subst}
use mathlib.Core.Bool.{Bool, true, false, ◌||◌}
use mathlib.Core.List.{List}
use borrow.Author.Tests.{ltb-false, lt-ltb, le-ltb, eq-eqb, ne_eqb}
use lib.Dec.{T, ltb}
use lib.Ieee.{Float}
use lib.ListN.{length}
use Rattle.refusals.specs.Numbers.{number_of, file_room, file_length, bad_corner, list_room}
use Rattle.lists.specs.Over.{over, flat}
use Rattle.stl.specs.Answer.{with_count}
use Rattle.stl.specs.Each.{each, first_bad}
use Rattle.stl.specs.File.{size_of, count_in, facet_at, corners_of, file_bytes}
use Rattle.stl.specs.Read.{fine_facet, unread, read_of}
use Rattle.stl.specs.Write.{fine_triangle, facets_of, count_limit, too_short, unwritten, write_of}

-- ---- writing
pub long_enough : (n room : ℕ) → too_short n room ≡ false → (n ≤ count_limit) × (size_of n ≤ room)
long_enough n room h = go (ltb count_limit n) (ltb room (size_of n)) refl refl h
  where
    go : (p q : Bool) → ltb count_limit n ≡ p → ltb room (size_of n) ≡ q → p || q ≡ false → (n ≤ count_limit) × (size_of n ≤ room)
    go true q d e h = absurd (subst T h tt)
    go false true d e h = absurd (subst T h tt)
    go false false d e h = (ltb-false count_limit n d, ltb-false room (size_of n) e)

module _ (v : List Float) (t b : List ℕ) where
  pub write_short : too_short (length t / 3) (length b) ≡ true → unwritten b (number_of file_room) 0 ≡ write_of v t b
  unfolding write_of
  write_short h = rw h

  module _ (g : too_short (length t / 3) (length b) ≡ false) (k : ℕ) (e : k ≡ first_bad (fine_triangle v t) 0 (length t / 3)) where
    pub write_bad : k < length t / 3 → unwritten b (number_of bad_corner) k ≡ write_of v t b
    unfolding write_of
    write_bad h = rw (g, ← e, lt-ltb k (length t / 3) h)

    pub write_done : length t / 3 ≤ k → (ys : List ℕ) → ys ≡ over (file_bytes (facets_of v t)) b → record { answer = with_count (size_of (length t / 3)); bytes = ys } ≡ write_of v t b
    unfolding write_of
    write_done h ys y = rw (g, ← e, le-ltb k (length t / 3) h, y)

-- ---- reading
module _ (b : List ℕ) (c : List Float) where
  pub read_short : length b < 84 → unread c (number_of file_length) 0 ≡ read_of b c
  unfolding read_of
  read_short h = rw (lt-ltb (length b) 84 h)

  module _ (g : 84 ≤ length b) (n : ℕ) (w : n ≡ count_in b) where
    pub read_other : (length b ≡ size_of n → ⊥) → unread c (number_of file_length) 0 ≡ read_of b c
    unfolding read_of
    read_other h = rw (le-ltb (length b) 84 g, ← w, ne_eqb (length b) (size_of n) h)

    module _ (l : length b ≡ size_of n) (k : ℕ) (e : k ≡ first_bad (fine_facet b) 0 n) where
      pub read_bad : k < n → unread c (number_of bad_corner) k ≡ read_of b c
      unfolding read_of
      read_bad h = rw (le-ltb (length b) 84 g, ← w, eq-eqb (length b) (size_of n) l, ← e, lt-ltb k n h)

      pub read_full : n ≤ k → length c < 6 * n → unread c (number_of list_room) 0 ≡ read_of b c
      unfolding read_of
      read_full h m = rw (le-ltb (length b) 84 g, ← w, eq-eqb (length b) (size_of n) l, ← e, le-ltb k n h, lt-ltb (length c) (6 * n) m)

      pub read_done : n ≤ k → 6 * n ≤ length c → (ys : List Float) → ys ≡ over (flat corners_of (each (facet_at b) 0 n)) c → record { answer = with_count (6 * n); corners = ys } ≡ read_of b c
      unfolding read_of
      read_done h m ys y = rw (le-ltb (length b) 84 g, ← w, eq-eqb (length b) (size_of n) l, ← e, le-ltb k n h, le-ltb (length c) (6 * n) m, y)
