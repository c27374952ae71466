-- A pass that writes a strip, and one that writes what is woven into it: the second's vertices behind the first's, its triangles over the first's. Then the second
-- in the parts of the lists that it is lent. Assumes nothing.
use Prim.Native.Nat.{ℕ, ◌+◌, ◌-◌, ◌*◌, ◌≤◌}
use mathlib.Core.Path.{◌≡◌, refl, ap, ◌∙◌}
use mathlib.Core.Bool.{Bool, true, false, cond}
use mathlib.Core.List.{List, [], ◌∷◌, ◌++◌}
use native.Mathlib.Omega.{arith}
use borrow.Rule.Slice.PartMut.{mid_of, put_mid}
use lib.Ieee.{Float}
use lib.ListN.{length, length-append}
use Rattle.endpoint.specs.Endpoint.{vertex_after}
use Rattle.endpoint.specs.declared.VertexId.{VertexId}
use Rattle.lists.specs.Over.{over, put_at}
use Rattle.lists.proofs.Laws.{put_start, length_put, put_flat}
use Rattle.lists.proofs.Parts.{part_is, put_is}
use Rattle.pieces.specs.Piece.{floats_of, sources_of, flat_s, flat_t, Piece, behind, from, Lists, lent, laid, Fits, Passes}
use Rattle.pieces.specs.declared.Place.{Place}
use Rattle.pieces.proofs.Pieces.{length_flat_t}
use Rattle.pieces.proofs.Pieces as pieces
use Rattle.woven.specs.Woven.{over_strip}

-- a list written over another that is no longer
pub over_again : {A : Type 0} (xs ys l : List A) → length ys ≤ length xs → over xs (over ys l) ≡ over xs l
unfolding over
over_again [] [] l h = refl
over_again [] (y ∷ ys) l h = absurd (omega arith)
over_again (x ∷ xs) [] l h = refl
over_again (x ∷ xs) (y ∷ ys) [] h = refl
over_again {A} (x ∷ xs) (y ∷ ys) (z ∷ l) h = ap (λ (m : List A). x ∷ m) (over_again xs ys l (omega arith))

-- a piece whose triangles are the second's and whose vertices are both's
abbrev pub whole_of : Piece → Piece → Piece
whole_of p q = record { vertices = p.vertices ++ q.vertices; triangles = q.triangles }

module _ (base : VertexId) (p q : Piece) (more : length p.triangles ≤ length q.triangles) where
  pub first_fits : {write : Bool} {l : Lists} → Fits write (from base) (whole_of p q) l → Fits write (from base) p l
  first_fits h =
      let a = length-append p.vertices q.vertices in
      record { numbers = omega (arith, h.numbers); faces = omega (arith, h.faces); vertices = λ w. omega (arith, h.vertices w); sources = λ w. omega (arith, h.sources w); triangles = λ w. omega (arith, h.triangles w) }

  put_twice : (t : List ℕ) → put_at 0 (flat_t q.triangles) (put_at 0 (flat_t p.triangles) t) ≡ put_at 0 (flat_t q.triangles) t
  put_twice t =
      let m = length_flat_t q.triangles in
      let n = length_flat_t p.triangles in
      rw (put_start (flat_t q.triangles) (put_at 0 (flat_t p.triangles) t), put_start (flat_t p.triangles) t, put_start (flat_t q.triangles) t) (over_again (flat_t q.triangles) (flat_t p.triangles) t (omega arith))

  put_sources : (s : List ℕ) → put_at (0 + length p.vertices) (flat_s q.vertices) (put_at 0 (flat_s p.vertices) s) ≡ put_at 0 (flat_s (p.vertices ++ q.vertices)) s
  put_sources s =
      let a : 1 * (0 + length p.vertices) ≡ 0 + length p.vertices = omega arith in
      rw a at (put_flat sources_of 1 (λ v. refl) 0 p.vertices q.vertices s)

  laid_twice : (l : Lists) → laid (over_strip base (0 + length p.vertices)) q (laid (from base) p l) ≡ laid (from base) (whole_of p q) l
  laid_twice l = rw (put_flat floats_of 5 (λ v. refl) 0 p.vertices q.vertices l.vertices, put_sources l.sources, put_twice l.triangles)

  placed : behind (over_strip base (0 + length p.vertices)) q ≡ behind (from base) (whole_of p q)
  placed =
      let n : 0 + length p.vertices + length q.vertices ≡ 0 + (length p.vertices + length q.vertices) = omega arith in
      rw (length-append p.vertices q.vertices, n)

  module _ {write : Bool} {l l1 : Lists} {k1 : Place} (e : Passes write (from base) p l l1 k1) where
    pub second_fits : Fits write (from base) (whole_of p q) l → Fits write (over_strip base k1.vertices) q l1
    second_fits h =
        let a = length-append p.vertices q.vertices in
        rw e.place (record {
          numbers = omega (arith, h.numbers);
          faces = omega (arith, h.faces);
          vertices = λ w. rw (e.lists w, length_put) (omega (arith, h.vertices w));
          sources = λ w. rw (e.lists w, length_put) (omega (arith, h.sources w));
          triangles = λ w. rw (e.lists w, length_put) (omega (arith, h.triangles w));
        })

    pub twice : {l2 : Lists} {k : Place} → Passes write (over_strip base k1.vertices) q l1 l2 k → Passes write (from base) (whole_of p q) l l2 k
    twice f = record {
      place = f.place ∙ rw e.place placed;
      lists = λ w. f.lists w ∙ rw (e.place, e.lists w) (laid_twice l);
    }

-- ---- the parts that the second pass is lent: the vertices' from the place b on, and all triangles
module _ (base : VertexId) (n : ℕ) (q : Piece) (v : List Float) (s t : List ℕ) where
  abbrev parts : ℕ → Lists
  parts b = lent (mid_of (5 * b) (length v - 5 * b) v) (mid_of b (length s - b) s) t

  abbrev whole : ℕ → List Float → List ℕ → List ℕ → Lists
  whole b v2 s2 t2 = lent (put_mid (5 * b) (length v - 5 * b) v v2) (put_mid b (length s - b) s s2) t2

  all_lent : mid_of 0 (length t - 0) t ≡ t
  all_lent = part_is t 0 (omega arith)

  all_back : (t2 : List ℕ) → put_mid 0 (length t - 0) t t2 ≡ t2
  all_back t2 = put_is t t2 0 (omega arith)

  pub parts_from : (write : Bool) → Fits write (over_strip base n) q (lent v s t) → (b : ℕ) → b ≡ cond write n 0 → (5 * b ≤ length v) × (b ≤ length s)
  parts_from true h b e = (omega (arith, h.vertices refl), omega (arith, h.sources refl))
  parts_from false h b e = (omega arith, omega arith)

  pub parts_fit : (write : Bool) → Fits write (over_strip base n) q (lent v s t) → (b : ℕ) → b ≡ cond write n 0 → Fits write (from (vertex_after base n)) q (parts b)
  parts_fit true h b e = rw e (rw all_lent at (pieces.parts_fit (over_strip base n) q v s t true h))
  parts_fit false h b e = rw e (rw all_lent at (pieces.parts_fit (over_strip base n) q v s t false h))

  pub parts_pass : (write : Bool) → Fits write (over_strip base n) q (lent v s t) → (b : ℕ) → b ≡ cond write n 0 → (v2 : List Float) (s2 t2 : List ℕ) (k : Place)
      → Passes write (from (vertex_after base n)) q (parts b) (lent v2 s2 t2) k
      → Passes write (over_strip base n) q (lent v s t) (whole b v2 s2 t2) (record { base = base; vertices = n + k.vertices; triangles = k.triangles })
  parts_pass true h b e v2 s2 t2 k f =
      let z : 0 + k.triangles ≡ k.triangles = omega arith in
      rw e (rw (all_back t2, z) at (pieces.parts_put (over_strip base n) q v s t true h v2 s2 t2 k (rw all_lent (rw e at f))))
  parts_pass false h b e v2 s2 t2 k f =
      let z : 0 + k.triangles ≡ k.triangles = omega arith in
      rw e (rw (all_back t2, z) at (pieces.parts_put (over_strip base n) q v s t false h v2 s2 t2 k (rw all_lent (rw e at f))))
