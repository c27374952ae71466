-- A text has one page. Assumes nothing.
use Prim.Native.Nat.{ℕ}
use mathlib.Core.Path.{◌≡◌, refl, ap}
use mathlib.Core.List.{List}
use native.Mathlib.Omega.{arith}
use Rattle.reader.proofs.Meets.{same_outcome}
use Rattle.page.specs.Page.{verb_room, coord_room, read_page_of, Prints, too_long, read_text}

pub one_page : (s p q : List ℕ) → Prints s p → Prints s q → p ≡ q
one_page s p q (too_long h) (too_long g) = refl
one_page s p q (too_long h) (read_text o g r) = absurd (omega arith)
one_page s p q (read_text o h r) (too_long g) = absurd (omega arith)
one_page s p q (read_text o h r) (read_text u g t) = ap read_page_of (same_outcome s verb_room coord_room o u r t)
