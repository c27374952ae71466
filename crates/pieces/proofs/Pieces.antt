-- Laws for whoever writes pieces: nothing, two pieces one behind the other, and what a callee did in the parts that it was lent. In this order: of pieces, of lists,
-- of passes over both, and of lists lent anew from a place on. Assumes nothing.
use Prim.Native.Nat.{ℕ, ◌+◌, ◌-◌, ◌*◌, ◌≤◌}
use mathlib.Core.Path.{◌≡◌, refl, sym, ap, ◌∙◌}
use mathlib.Core.Bool.{Bool, true, false, cond, true≢false}
use mathlib.Core.List.{List, [], ◌++◌, append-nil}
use mathlib.Core.Logic.{◌≢◌}
use native.Mathlib.Omega.{arith}
use borrow.Rule.Slice.PartMut.{mid_of, put_mid}
use lib.Ieee.{Float}
use lib.ListN.{length, length-append, length-drop}
use Rattle.endpoint.specs.declared.VertexId.{VertexId}
use Rattle.lists.specs.Over.{over, put_at, flat}
use Rattle.triangles.specs.Tri.{Tri, numbers_of}
use Rattle.pieces.specs.Piece.{Vertex, floats_of, sources_of, flat_v, flat_s, flat_t, Piece, none, joined, behind, anew, Lists, lent, laid, Fits, Passes}
use Rattle.pieces.specs.declared.Place.{Place}
use Rattle.lists.proofs.Parts.{part_is, put_part}
use Rattle.lists.proofs.Laws.{put_start, put_none, length_put, length_flat, put_flat}

pub length_flat_v : (vs : List Vertex) → length (flat_v vs) ≡ 5 * length vs
length_flat_v = length_flat floats_of 5 (λ v. refl)

pub length_flat_s : (vs : List Vertex) → length (flat_s vs) ≡ length vs
length_flat_s vs = omega (arith, length_flat sources_of 1 (λ v. refl) vs)

pub length_flat_t : (ts : List Tri) → length (flat_t ts) ≡ 3 * length ts
length_flat_t = length_flat numbers_of 3 (λ t. refl)

-- ---- pieces
pub joined_none : (p : Piece) → joined p none ≡ p
joined_none p = rw (append-nil p.vertices, append-nil p.triangles)

pub behind_none : (k : Place) → behind k none ≡ k
behind_none k = let a : k.vertices + 0 ≡ k.vertices = omega arith in let b : k.triangles + 0 ≡ k.triangles = omega arith in rw (a, b)

pub behind_joined : (k : Place) (p q : Piece) → behind k (joined p q) ≡ behind (behind k p) q
behind_joined k p q =
    let a : k.vertices + (length p.vertices + length q.vertices) ≡ k.vertices + length p.vertices + length q.vertices = omega arith in
    let b : k.triangles + (length p.triangles + length q.triangles) ≡ k.triangles + length p.triangles + length q.triangles = omega arith in
    rw (length-append, length-append, a, b)

-- ---- lists
pub laid_none : (k : Place) (l : Lists) → laid k none l ≡ l
unfolding flat
laid_none k l = rw (put_none (5 * k.vertices) l.vertices, put_none k.vertices l.sources, put_none (3 * k.triangles) l.triangles)

put_sources : (k : ℕ) (vs ws : List Vertex) (xs : List ℕ) → put_at (k + length vs) (flat_s ws) (put_at k (flat_s vs) xs) ≡ put_at k (flat_s (vs ++ ws)) xs
put_sources k vs ws xs =
    let a : 1 * k ≡ k = omega arith in
    let b : 1 * (k + length vs) ≡ k + length vs = omega arith in
    rw (b, a) at (put_flat sources_of 1 (λ v. refl) k vs ws xs)

laid_joined : (k : Place) (p q : Piece) (l : Lists) → laid (behind k p) q (laid k p l) ≡ laid k (joined p q) l
laid_joined k p q l = rw (put_flat floats_of 5 (λ v. refl) k.vertices p.vertices q.vertices l.vertices, put_sources k.vertices p.vertices q.vertices l.sources, put_flat numbers_of 3 (λ t. refl) k.triangles p.triangles q.triangles l.triangles)

-- from the start of the lists on
pub laid_start : (b : VertexId) (p : Piece) (l : Lists) → laid (record { base = b; vertices = 0; triangles = 0 }) p l
    ≡ lent (over (flat_v p.vertices) l.vertices) (over (flat_s p.vertices) l.sources) (over (flat_t p.triangles) l.triangles)
laid_start b p l = rw (put_start (flat_v p.vertices) l.vertices, put_start (flat_s p.vertices) l.sources, put_start (flat_t p.triangles) l.triangles)

-- triangles alone
pub laid_triangles : (k : Place) (ts : List Tri) (v : List Float) (s t t' : List ℕ) → t' ≡ put_at (3 * k.triangles) (flat_t ts) t → lent v s t' ≡ laid k (record { vertices = []; triangles = ts }) (lent v s t)
unfolding flat
laid_triangles k ts v s t t' e = rw (put_none (5 * k.vertices) v, put_none k.vertices s, e)

-- a callee that got the parts from the place on wrote the piece at their start
pub laid_parts : (k : Place) (p : Piece) (v v' : List Float) (s s' t t' : List ℕ) → Fits true k p (lent v s t)
    → v' ≡ over (flat_v p.vertices) (mid_of (5 * k.vertices) (length v - 5 * k.vertices) v) → s' ≡ over (flat_s p.vertices) (mid_of k.vertices (length s - k.vertices) s)
    → t' ≡ over (flat_t p.triangles) (mid_of (3 * k.triangles) (length t - 3 * k.triangles) t)
    → lent (put_mid (5 * k.vertices) (length v - 5 * k.vertices) v v') (put_mid k.vertices (length s - k.vertices) s s') (put_mid (3 * k.triangles) (length t - 3 * k.triangles) t t') ≡ laid k p (lent v s t)
laid_parts k p v v' s s' t t' h ev es et = rw (
  put_part v v' (flat_v p.vertices) (5 * k.vertices) (omega (arith, h.vertices refl)) ev,
  put_part s s' (flat_s p.vertices) k.vertices (omega (arith, h.sources refl)) es,
  put_part t t' (flat_t p.triangles) (3 * k.triangles) (omega (arith, h.triangles refl)) et,
)

-- ---- passes
pub puts_none : {write : Bool} {k : Place} {l : Lists} → Passes write k none l l k
puts_none {write} {k} {l} = record { place = sym (behind_none k); lists = λ w. sym (laid_none k l) }

module _ {write : Bool} {k : Place} {l : Lists} where
  pub puts_both : {p q : Piece} {l1 l2 : Lists} {k1 k2 : Place} → Passes write k p l l1 k1 → Passes write k1 q l1 l2 k2 → Passes write k (joined p q) l l2 k2
  puts_both {p} {q} e f = record {
    place = f.place ∙ rw e.place (sym (behind_joined k p q));
    lists = λ w. f.lists w ∙ rw (e.place, e.lists w) (laid_joined k p q l);
  }

  pub fits_front : (p q : Piece) → Fits write k (joined p q) l → Fits write k p l
  fits_front p q h =
      let a = length-append p.vertices q.vertices in
      let b = length-append p.triangles q.triangles in
      record { numbers = omega (arith, h.numbers); faces = omega (arith, h.faces); vertices = λ w. omega (arith, h.vertices w); sources = λ w. omega (arith, h.sources w); triangles = λ w. omega (arith, h.triangles w) }

  pub fits_back : (p q : Piece) → Fits write k (joined p q) l → {l1 : Lists} {k1 : Place} → Passes write k p l l1 k1 → Fits write k1 q l1
  fits_back p q h e =
      let a = length-append p.vertices q.vertices in
      let b = length-append p.triangles q.triangles in
      rw e.place (record {
        numbers = omega (arith, h.numbers);
        faces = omega (arith, h.faces);
        vertices = λ w. rw (e.lists w, length_put) (omega (arith, h.vertices w));
        sources = λ w. rw (e.lists w, length_put) (omega (arith, h.sources w));
        triangles = λ w. rw (e.lists w, length_put) (omega (arith, h.triangles w));
      })

-- ---- lists that are lent anew, from a place on: a pass that writes is lent the parts behind it, one that only counts may be lent anything
part_room : {A : Type 0} (xs : List A) (a n : ℕ) → a + n ≤ length xs → n ≤ length (mid_of a (length xs - a) xs)
part_room xs a n h = let r : a ≤ length xs = omega arith in rw (part_is xs a r) (simp length-drop (omega arith))

module _ (k : Place) (p : Piece) (v : List Float) (s t : List ℕ) where
  -- where the parts begin
  abbrev from_v : Bool → ℕ
  from_v write = cond write (5 * k.vertices) 0

  abbrev from_s : Bool → ℕ
  from_s write = cond write k.vertices 0

  abbrev from_t : Bool → ℕ
  from_t write = cond write (3 * k.triangles) 0

  -- the parts that begin at a, b and c, and the whole lists once these are back
  abbrev parts : ℕ → ℕ → ℕ → Lists
  parts a b c = lent (mid_of a (length v - a) v) (mid_of b (length s - b) s) (mid_of c (length t - c) t)

  abbrev whole : ℕ → ℕ → ℕ → List Float → List ℕ → List ℕ → Lists
  whole a b c v' s' t' = lent (put_mid a (length v - a) v v') (put_mid b (length s - b) s s') (put_mid c (length t - c) t t')

  -- the place reached, in the whole lists
  abbrev pub reached : Place → Place
  reached r = record { base = k.base; vertices = k.vertices + r.vertices; triangles = k.triangles + r.triangles }

  pub parts_inside : (write : Bool) → Fits write k p (lent v s t) → (from_v write ≤ length v) × (from_s write ≤ length s) × (from_t write ≤ length t)
  parts_inside true f = omega (arith, f.vertices refl, f.sources refl, f.triangles refl)
  parts_inside false f = omega arith

  pub parts_fit : (write : Bool) → Fits write k p (lent v s t) → Fits write (anew k) p (parts (from_v write) (from_s write) (from_t write))
  parts_fit true f =
      let a = part_room v (5 * k.vertices) (5 * length p.vertices) (omega (arith, f.vertices refl)) in
      let b = part_room s k.vertices (length p.vertices) (f.sources refl) in
      let c = part_room t (3 * k.triangles) (3 * length p.triangles) (omega (arith, f.triangles refl)) in
      record { numbers = omega (arith, f.numbers); faces = omega (arith, f.faces); vertices = λ _. omega (arith, a); sources = λ _. omega (arith, b); triangles = λ _. omega (arith, c) }
  parts_fit false f =
      let no : false ≢ true = λ w. true≢false (sym w) in
      record { numbers = omega (arith, f.numbers); faces = omega (arith, f.faces); vertices = λ w. absurd (no w); sources = λ w. absurd (no w); triangles = λ w. absurd (no w) }

  place_is : (r : Place) → r ≡ behind (anew k) p → reached r ≡ behind k p
  place_is r e =
      let a : k.vertices + (0 + length p.vertices) ≡ k.vertices + length p.vertices = omega arith in
      let b : k.triangles + (0 + length p.triangles) ≡ k.triangles + length p.triangles = omega arith in
      rw (e, a, b)

  pub parts_put : (write : Bool) → Fits write k p (lent v s t) → (v' : List Float) (s' t' : List ℕ) (r : Place)
      → Passes write (anew k) p (parts (from_v write) (from_s write) (from_t write)) (lent v' s' t') r
      → Passes write k p (lent v s t) (whole (from_v write) (from_s write) (from_t write) v' s' t') (reached r)
  parts_put true f v' s' t' r e =
      let l = e.lists refl ∙ laid_start (anew k).base p (parts (5 * k.vertices) k.vertices (3 * k.triangles)) in
      record {
        place = place_is r e.place;
        lists = λ _. laid_parts k p v v' s s' t t' f (ap (λ (x : Lists). x.vertices) l) (ap (λ (x : Lists). x.sources) l) (ap (λ (x : Lists). x.triangles) l);
      }
  parts_put false f v' s' t' r e = record { place = place_is r e.place; lists = λ w. absurd (true≢false (sym w)) }
