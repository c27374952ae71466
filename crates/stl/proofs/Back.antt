-- What was written is read back. A corner behind any bytes gives its two floats again (`corner_back`); a triangle's three stand behind its normal and behind each other
-- (`facet_back`); a file's triangles behind the header, the count and each other (`facets_back`); and the tests of both calls pass (`reads_back`, `accepted_is`). Assumes nothing.
use Prim.Native.Nat.{ℕ, zero, suc, ◌+◌, ◌*◌, ◌/◌, ◌≤◌, ◌<◌}
use mathlib.Core.Path.{◌≡◌, refl, sym, ap, ◌∙◌, subst}
use mathlib.Core.Bool.{Bool, true, false, cond, ◌&&◌}
use mathlib.Core.List.{List, [], ◌∷◌, ◌++◌, append_assoc}
use native.Mathlib.Omega.{arith}
use borrow.Author.Tests.{ltb-false}
use lib.Dec.{T, ltb}
use lib.Ieee.{Float, binary32, fits, of_bits, to_bits}
use lib.Ieee.Bits.{of_bits-to_bits, to_bits-lt, is_true}
use lib.ListN.{length, get_or, length-append}
use Rattle.refusals.specs.Numbers.{number_of, accepted, file_room, bad_corner}
use Rattle.lists.specs.Over.{over, flat}
use Rattle.lists.proofs.Laws.{take_over, length_flat}
use Rattle.plane.specs.declared.vector.Point.{Point}
use Rattle.stl.specs.Answer.{with_count}
use Rattle.stl.specs.Back.{Held, PlacesHeld, ReadsBack, written, Returns}
use Rattle.stl.specs.Bytes.{zeros, le32, word_at}
use Rattle.stl.specs.Corner.{is_zero, finite_corner}
use Rattle.stl.specs.Each.{each, first_bad}
use Rattle.stl.specs.File.{corner_bytes, facet_bytes, file_bytes, size_of, count_in, corner_at, facet_at, corners_of}
use Rattle.stl.specs.Read.{fine_corner, fine_facet}
use Rattle.stl.specs.Write.{corner_of, fine_vertex, fine_triangle, facet_of, facets_of, first_refused, count_limit, too_short, unwritten, WriteOutcome, write_of}
use Rattle.stl.specs.declared.facet.Facet.{Facet}
use Rattle.stl.proofs.Corner.{both}
use Rattle.stl.proofs.Each.{all_fine, length_each}
use Rattle.stl.proofs.Outcomes.{long_enough, read_done, read_full, write_done}
use Rattle.stl.proofs.Words.{word_back, word_behind}

-- ---- a corner: two f32 values, finite
pub record Sound (p : Point) : Type 0 where
  pub x : T (fits binary32 p.x)
  pub y : T (fits binary32 p.y)
  pub finite : T (finite_corner p)

length_corner : (p : Point) → length (corner_bytes p) ≡ 12
unfolding corner_bytes le32
length_corner p = refl

float_back : (x : Float) → T (fits binary32 x) → (w : ℕ) → w ≡ to_bits binary32 x → of_bits binary32 w ≡ x
float_back x f w e = ap (λ (b : ℕ). of_bits binary32 b) e ∙ of_bits-to_bits binary32 x f

module _ (c : Point) (s : Sound c) (p r : List ℕ) (k : ℕ) (l : length p ≡ k) where
  abbrev all : List ℕ
  all = p ++ (corner_bytes c ++ r)

  word_x : word_at all k ≡ to_bits binary32 c.x
  unfolding word_at corner_bytes le32
  word_x =
      let z : k ≡ k + 0 = omega arith in
      ap (λ (i : ℕ). word_at all i) z ∙ word_behind p (corner_bytes c ++ r) k 0 l ∙ word_back (to_bits binary32 c.x) (to_bits-lt binary32 c.x s.x)

  word_y : word_at all (k + 4) ≡ to_bits binary32 c.y
  unfolding word_at corner_bytes le32
  word_y = word_behind p (corner_bytes c ++ r) k 4 l ∙ word_back (to_bits binary32 c.y) (to_bits-lt binary32 c.y s.y)

  word_z : word_at all (k + 8) ≡ 0
  unfolding word_at corner_bytes le32
  word_z = word_behind p (corner_bytes c ++ r) k 8 l

  corner_back : corner_at all k ≡ c
  corner_back = rw (float_back c.x s.x (word_at all k) word_x, float_back c.y s.y (word_at all (k + 4)) word_y)

  corner_fine : fine_corner all k ≡ true
  unfolding fine_corner is_zero of_bits
  corner_fine = rw (corner_back, word_z, is_true (finite_corner c) s.finite)

-- ---- a triangle
abbrev pub SoundFacet : Facet → Type 0
SoundFacet f = Sound f.a × Sound f.b × Sound f.c

pub length_facet : (f : Facet) → length (facet_bytes f) ≡ 50
unfolding facet_bytes corner_bytes le32
length_facet f = refl

module _ (n a b c z r p : List ℕ) where
  at_a : p ++ ((n ++ (a ++ (b ++ (c ++ z)))) ++ r) ≡ (p ++ n) ++ (a ++ ((b ++ (c ++ z)) ++ r))
  at_a = simp append_assoc refl

  at_b : p ++ ((n ++ (a ++ (b ++ (c ++ z)))) ++ r) ≡ ((p ++ n) ++ a) ++ (b ++ ((c ++ z) ++ r))
  at_b = simp append_assoc refl

  at_c : p ++ ((n ++ (a ++ (b ++ (c ++ z)))) ++ r) ≡ (((p ++ n) ++ a) ++ b) ++ (c ++ (z ++ r))
  at_c = simp append_assoc refl

longer : (p q : List ℕ) (i j k : ℕ) → length p ≡ i → length q ≡ j → i + j ≡ k → length (p ++ q) ≡ k
longer p q i j k d e f = length-append p q ∙ omega (arith, d, e, f)

-- the corner c stands at i
abbrev Stands : Point → ℕ → List ℕ → Type 0
Stands c i b = (corner_at b i ≡ c) × (fine_corner b i ≡ true)

stands : (c : Point) → Sound c → (p r : List ℕ) (k : ℕ) → length p ≡ k → (b : List ℕ) → b ≡ p ++ (corner_bytes c ++ r) → Stands c k b
stands c s p r k l b e = subst (Stands c k) (sym e) (corner_back c s p r k l, corner_fine c s p r k l)

module _ (f : Facet) (s : SoundFacet f) (p r : List ℕ) (k : ℕ) (l : length p ≡ size_of k) where
  abbrev here : List ℕ
  here = p ++ (facet_bytes f ++ r)

  abbrev ca : List ℕ
  ca = corner_bytes f.a

  abbrev cb : List ℕ
  cb = corner_bytes f.b

  abbrev cc : List ℕ
  cc = corner_bytes f.c

  before_a : length (p ++ zeros 12) ≡ size_of k + 12
  before_a = longer p (zeros 12) (size_of k) 12 (size_of k + 12) l refl refl

  before_b : length ((p ++ zeros 12) ++ ca) ≡ size_of k + 24
  before_b = longer (p ++ zeros 12) ca (size_of k + 12) 12 (size_of k + 24) before_a (length_corner f.a) (omega arith)

  before_c : length (((p ++ zeros 12) ++ ca) ++ cb) ≡ size_of k + 36
  before_c = longer ((p ++ zeros 12) ++ ca) cb (size_of k + 24) 12 (size_of k + 36) before_b (length_corner f.b) (omega arith)

  a_stands : Stands f.a (size_of k + 12) here
  unfolding facet_bytes
  a_stands = stands f.a s.0 (p ++ zeros 12) ((cb ++ (cc ++ zeros 2)) ++ r) (size_of k + 12) before_a here (at_a (zeros 12) ca cb cc (zeros 2) r p)

  b_stands : Stands f.b (size_of k + 24) here
  unfolding facet_bytes
  b_stands = stands f.b s.1 ((p ++ zeros 12) ++ ca) ((cc ++ zeros 2) ++ r) (size_of k + 24) before_b here (at_b (zeros 12) ca cb cc (zeros 2) r p)

  c_stands : Stands f.c (size_of k + 36) here
  unfolding facet_bytes
  c_stands = stands f.c s.2 (((p ++ zeros 12) ++ ca) ++ cb) (zeros 2 ++ r) (size_of k + 36) before_c here (at_c (zeros 12) ca cb cc (zeros 2) r p)

  facet_back : facet_at here k ≡ f
  unfolding facet_at
  facet_back = rw (a_stands.0, b_stands.0, c_stands.0)

  facet_fine : fine_facet here k ≡ true
  unfolding fine_facet
  facet_fine = rw (a_stands.1, b_stands.1, c_stands.1)

-- ---- all of them
abbrev pub AllSound : List Facet → Type 0
AllSound [] = Unit
AllSound (f ∷ fs) = SoundFacet f × AllSound fs

abbrev Back : List Facet → ℕ → List ℕ → Type 0
Back fs k b = (each (facet_at b) k (length fs) ≡ fs) × (first_bad (fine_facet b) k (length fs) ≡ k + length fs)

facets_back : (fs : List Facet) → AllSound fs → (k : ℕ) (p : List ℕ) → length p ≡ size_of k → Back fs k (p ++ flat facet_bytes fs)
unfolding flat each first_bad
facets_back [] s k p l = (refl, omega arith)
facets_back (f ∷ fs) (s, ss) k p l =
    let r = flat facet_bytes fs in
    let n : 84 + 50 * k + 50 ≡ 84 + 50 * (k + 1) = omega arith in
    let l1 = longer p (facet_bytes f) (size_of k) 50 (size_of (k + 1)) l (length_facet f) n in
    let e = append_assoc p (facet_bytes f) r in
    let rest = subst (Back fs (k + 1)) e (facets_back fs ss (k + 1) (p ++ facet_bytes f) l1) in
    (rw (facet_back f s p r k l, rest.0), rw (facet_fine f s p r k l, rest.1) (omega arith))

-- ---- the file
module _ (fs : List Facet) (s : AllSound fs) (few : length fs ≤ count_limit) where
  counted : count_in (file_bytes fs) ≡ length fs
  unfolding file_bytes word_at le32
  counted = word_back (length fs) (omega arith)

  sized : length (file_bytes fs) ≡ size_of (length fs)
  unfolding file_bytes le32
  sized = let e = length_flat facet_bytes 50 length_facet fs in omega arith

  backs : Back fs 0 (file_bytes fs)
  unfolding file_bytes le32
  backs = facets_back fs s 0 (zeros 80 ++ le32 (length fs)) refl

  same : each (facet_at (file_bytes fs)) 0 (length fs) ≡ fs
  same = backs.0

  none : length fs ≡ first_bad (fine_facet (file_bytes fs)) 0 (length fs)
  none = sym (backs.1 ∙ omega arith)

  reads_back : ReadsBack fs (file_bytes fs)
  reads_back = record {
    size = sized;
    facets = ap (λ (n : ℕ). each (facet_at (file_bytes fs)) 0 n) counted ∙ same;
    enough = λ c h. sym (read_done (file_bytes fs) c (omega (arith, sized)) (length fs) (sym counted) sized (length fs) none (omega arith) h _ (ap (λ (l : List Facet). over (flat corners_of l) c) (sym same)));
    few = λ c h. sym (read_full (file_bytes fs) c (omega (arith, sized)) (length fs) (sym counted) sized (length fs) none (omega arith) h);
  }

-- ---- the mesh that was written: fine triangles of f32 values are sound
module _ (v : List Float) (t : List ℕ) (held : PlacesHeld v) where
  vertex_sound : (i : ℕ) → T (fine_vertex v i) → Sound (corner_of v i)
  unfolding fine_vertex
  vertex_sound i h = record { x = (held i).0; y = (held i).1; finite = (both (ltb i (length v / 5)) (finite_corner (corner_of v i)) h).1 }

  facet_sound : (k : ℕ) → T (fine_triangle v t k) → SoundFacet (facet_of v t k)
  unfolding fine_triangle facet_of
  facet_sound k h =
      let i = fine_vertex v (get_or t (3 * k) 0) in
      let j = fine_vertex v (get_or t (3 * k + 1) 0) in
      let a = both (i && j) (fine_vertex v (get_or t (3 * k + 2) 0)) h in
      let b = both i j a.0 in
      (vertex_sound (get_or t (3 * k) 0) b.0, vertex_sound (get_or t (3 * k + 1) 0) b.1, vertex_sound (get_or t (3 * k + 2) 0) a.1)

  all_sound : (i n : ℕ) → ((k : ℕ) → i ≤ k → k < i + n → T (fine_triangle v t k)) → AllSound (each (facet_of v t) i n)
  unfolding each
  all_sound i zero h = tt
  all_sound i (suc n) h = (facet_sound i (h i (omega arith) (omega arith)), all_sound (i + 1) n (λ k a b. h k (omega arith) (omega arith)))

-- what an accepted mesh has
pub record Accepted (v : List Float) (t b : List ℕ) : Type 0 where
  pub few : length t / 3 ≤ count_limit
  pub room : size_of (length t / 3) ≤ length b
  pub fine : (k : ℕ) → k < length t / 3 → T (fine_triangle v t k)
  pub outcome : write_of v t b ≡ record { answer = with_count (size_of (length t / 3)); bytes = over (file_bytes (facets_of v t)) b }

module _ (v : List Float) (t b : List ℕ) where
  abbrev n : ℕ
  n = length t / 3

  abbrev whole : WriteOutcome
  whole = record { answer = with_count (size_of n); bytes = over (file_bytes (facets_of v t)) b }

  judged : (p s : Bool) → too_short n (length b) ≡ p → ltb (first_refused v t) n ≡ s
      → (cond p (unwritten b (number_of file_room) 0) (cond s (unwritten b (number_of bad_corner) (first_refused v t)) whole)).answer.number ≡ number_of accepted → Accepted v t b
  judged true s d f h = absurd (omega arith)
  judged false true d f h = absurd (omega arith)
  judged false false d f h =
      let l = ltb-false (first_refused v t) n f in
      let r = long_enough n (length b) d in
      record {
        few = r.0;
        room = r.1;
        fine = all_fine (fine_triangle v t) n (first_refused v t) refl l;
        outcome = sym (write_done v t b d (first_refused v t) refl l (over (file_bytes (facets_of v t)) b) refl);
      }

  pub accepted_is : (write_of v t b).answer.number ≡ number_of accepted → Accepted v t b
  unfolding write_of
  accepted_is h = judged (too_short n (length b)) (ltb (first_refused v t) n) refl refl h

  -- ---- whatever is accepted, in whatever list, is a file that reads back
  pub places_return : PlacesHeld v → (write_of v t b).answer.number ≡ number_of accepted → Returns v t b
  places_return held h =
      let a = accepted_is h in
      let l = length_each (facet_of v t) 0 n in
      let s = all_sound v t held 0 n (λ k i j. a.fine k (omega arith)) in
      let r = reads_back (facets_of v t) s (omega (arith, l, a.few)) in
      let size : length (file_bytes (facets_of v t)) ≡ size_of n = omega (arith, l, r.size) in
      let e : written v t b ≡ file_bytes (facets_of v t) = rw (a.outcome, ← size) (take_over (file_bytes (facets_of v t)) b (omega (arith, size, a.room))) in
      record { file = e; back = subst (ReadsBack (facets_of v t)) (sym e) r }

  pub returns : Held v → (write_of v t b).answer.number ≡ number_of accepted → Returns v t b
  returns held h = places_return (λ i. (held (5 * i), held (5 * i + 1))) h
