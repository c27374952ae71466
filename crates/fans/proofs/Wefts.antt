-- Laws of what is written behind what stands: what the first and the second of two need, and what they do together. Assumes nothing.
use Prim.Native.Nat.{ℕ, ◌+◌}
use mathlib.Core.Path.{◌≡◌, subst}
use mathlib.Core.Bool.{Bool}
use mathlib.Core.List.{append_assoc}
use native.Mathlib.Omega.{arith}
use lib.ListN.{length, length-append}
use Rattle.pieces.specs.Piece.{next_vertex, Piece, Lists, behind, Passes}
use Rattle.pieces.specs.declared.Place.{Place}
use Rattle.pieces.proofs.Pieces.{puts_both, fits_front, fits_back}
use Rattle.fans.specs.Weft.{then, WeftFits, WeftPasses}

-- the number of the next vertex behind a piece
pub next_behind_lem : (k : Place) (p : Piece) → next_vertex (behind k p) ≡ next_vertex k + length p.vertices
next_behind_lem k p = omega arith

pub then_assoc : (f g h : ℕ → Piece) (i : ℕ) → then (then f g) h i ≡ then f (then g h) i
unfolding then
then_assoc f g h i =
    let a : i + (length (f i).vertices + length (g (i + length (f i).vertices)).vertices) ≡ i + length (f i).vertices + length (g (i + length (f i).vertices)).vertices = omega arith in
    rw (length-append (f i).vertices (g (i + length (f i).vertices)).vertices, a, append_assoc, append_assoc)

module _ {write : Bool} {k : Place} {l : Lists} (f g : ℕ → Piece) where
  pub weft_front : WeftFits write k (then f g) l → WeftFits write k f l
  unfolding then
  weft_front h = fits_front (f (next_vertex k)) (g (next_vertex k + length (f (next_vertex k)).vertices)) h

  module _ {l1 : Lists} {k1 : Place} (e : WeftPasses write k f l l1 k1) where
    on : next_vertex k1 ≡ next_vertex k + length (f (next_vertex k)).vertices
    on = rw e.place (next_behind_lem k (f (next_vertex k)))

    pub weft_back : WeftFits write k (then f g) l → WeftFits write k1 g l1
    unfolding then
    weft_back h = rw on (fits_back (f (next_vertex k)) (g (next_vertex k + length (f (next_vertex k)).vertices)) h e)

    pub weft_both : {l2 : Lists} {k2 : Place} → WeftPasses write k1 g l1 l2 k2 → WeftPasses write k (then f g) l l2 k2
    unfolding then
    weft_both {l2} {k2} d = puts_both e (subst (λ (i : ℕ). Passes write k1 (g i) l1 l2 k2) on d)
