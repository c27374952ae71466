-- What this crate's writers do. The plan: two lists one behind the other are one list (`spelt_behind`, and `two_writers` of triangles); a joint behind what the
-- state counts has room for its vertices and for the triangles past its `Sections`, and both are laid (`joint_laid`). Assumes nothing.
use Prim.Native.Nat.{ℕ, ◌+◌, ◌-◌, ◌*◌, ◌<◌, ◌≤◌}
use mathlib.Core.Path.{◌≡◌, refl, sym, ap, ◌∙◌}
use mathlib.Core.Bool.{true, cond}
use mathlib.Core.List.{List, [], ◌∷◌, ◌++◌}
use native.Mathlib.Omega.{arith}
use borrow.Rule.Slice.PartMut.{mid_of, put_mid}
use lib.Ieee.{Float}
use lib.ListN.{length, length-append}
use Rattle.endpoint.specs.Endpoint.{id_limit}
use Rattle.endpoint.specs.declared.EndpointData.{EndpointData}
use Rattle.lists.specs.Over.{over, flat}
use Rattle.pieces.specs.Piece.{Vertex, Piece, sources_of, flat_v, flat_s, flat_t, lent, laid, Fits}
use Rattle.triangles.specs.Tri.{Tri, numbers_of}
use Rattle.lists.proofs.Laws.{flat_append, length_flat}
use Rattle.lists.proofs.Parts.{behind}
use Rattle.pieces.proofs.Pieces.{laid_parts, length_flat_s}
use Rattle.strip.specs.declared.Strip.{Strip}
use Rattle.strip.specs.declared.section.Section.{Section}
use Rattle.strip.specs.Joint.{joint_count, joint_vertices_of}
use Rattle.strip.specs.Section.{before_of, after_of}
use Rattle.strip.specs.Triangle.{between, both_of, past}
use Rattle.strip.specs.Strip.{next_of, step_triangles, step_piece, piece_of, StripFits}
use Rattle.strip.proofs.Joints.{joint_few, length_joint}
use Rattle.strip.proofs.Facts.Ladder.{ladder, between_both}
use Rattle.strip.proofs.Steps.{piece_one}

-- xs and, in the part behind them, ys, each element spelt by n
module _ {A B : Type 0} (f : A → List B) (n : ℕ) (size : (x : A) → length (f x) ≡ n) where
  pub spelt_behind : (xs ys : List A) (m : ℕ) (t t' t2 : List B) → n * length xs ≤ length t → m ≡ length xs → t' ≡ over (flat f xs) t
      → t2 ≡ over (flat f ys) (mid_of (n * m) (length t' - n * m) t') → put_mid (n * m) (length t' - n * m) t' t2 ≡ over (flat f (xs ++ ys)) t
  spelt_behind xs ys m t t' t2 h em et eu = rw (flat_append f xs ys) (behind t t' t2 (flat f xs) (flat f ys) (n * m) (rw em (length_flat f n size xs)) (rw em h) et eu)

-- the records of vertices
pub sources_behind : (xs ys : List Vertex) (m : ℕ) (t t' t2 : List ℕ) → length xs ≤ length t → m ≡ length xs → t' ≡ over (flat_s xs) t
    → t2 ≡ over (flat_s ys) (mid_of m (length t' - m) t') → put_mid m (length t' - m) t' t2 ≡ over (flat_s (xs ++ ys)) t
sources_behind xs ys m t t' t2 h em et eu = rw (flat_append sources_of xs ys) (behind t t' t2 (flat_s xs) (flat_s ys) m (length_flat_s xs ∙ sym em) (rw em h) et eu)

-- triangles, with their number
pub two_writers : (xs ys : List Tri) (m l : ℕ) (t t' t2 : List ℕ) → 3 * length (xs ++ ys) ≤ length t → m ≡ length xs → t' ≡ over (flat_t xs) t
    → l ≡ length ys → t2 ≡ over (flat_t ys) (mid_of (3 * m) (length t' - 3 * m) t')
    → (m + l ≡ length (xs ++ ys)) × (put_mid (3 * m) (length t' - 3 * m) t' t2 ≡ over (flat_t (xs ++ ys)) t)
two_writers xs ys m l t t' t2 h em et el eu =
    let n = length-append xs ys in
    (omega arith, spelt_behind numbers_of 3 (λ x. refl) xs ys m t t' t2 (omega arith) em et eu)

-- the joint j after the state s: b and a are its sections
pub record Sections (s : Strip) (j : EndpointData) (b a : Section) : Type 0 where
  pub before : b ≡ before_of (next_of s) j
  pub after : a ≡ after_of (next_of s) j

module _ {s : Strip} {j : EndpointData} {v : List Float} {src t : List ℕ} (h : StripFits true s (j ∷ []) (lent v src t)) where
  fits : Fits true s.place (step_piece s j) (lent v src t)
  fits = rw (piece_one s j) at h.fits

  pub numbers_fit : next_of s + joint_count j < id_limit
  numbers_fit = omega (arith, fits.numbers, length_joint j)

  pub vertices_fit : (5 * (s.place.vertices + joint_count j) ≤ length v) × (s.place.vertices + joint_count j ≤ length src) × (j.id.0 < id_limit)
  vertices_fit = (omega (arith, fits.vertices refl, length_joint j), omega (arith, fits.sources refl, length_joint j), h.numbered.0)

  module _ {b a : Section} (x : Sections s j b a) where
    past_is : step_triangles s j ≡ past (cond s.begun s.last b) b a
    unfolding step_triangles
    past_is = rw (x.after, x.before)

    pub triangles_fit : 3 * (s.place.triangles + length (past (cond s.begun s.last b) b a)) ≤ length t
    triangles_fit = rw past_is at (fits.triangles refl)

    -- behind a run's last section the numbers are new
    pub both_come : s.begun ≡ true → between s.last b ≡ both_of s.last b
    unfolding ladder both_of
    both_come e = let g = h.sound.behind e in rw x.before (between_both s.last.negative.0 s.last.positive.0 _ _ _ _ (omega (arith, g, joint_few j)))

    -- the parts are back
    pub joint_laid : (v' : List Float) (src' t' : List ℕ) → v' ≡ over (flat_v (joint_vertices_of j)) (mid_of (5 * s.place.vertices) (length v - 5 * s.place.vertices) v)
        → src' ≡ over (flat_s (joint_vertices_of j)) (mid_of s.place.vertices (length src - s.place.vertices) src)
        → t' ≡ over (flat_t (past (cond s.begun s.last b) b a)) (mid_of (3 * s.place.triangles) (length t - 3 * s.place.triangles) t)
        → lent (put_mid (5 * s.place.vertices) (length v - 5 * s.place.vertices) v v') (put_mid s.place.vertices (length src - s.place.vertices) src src') (put_mid (3 * s.place.triangles) (length t - 3 * s.place.triangles) t t')
        ≡ laid s.place (piece_of s (j ∷ [])) (lent v src t)
    joint_laid v' src' t' ev es et =
        laid_parts s.place (step_piece s j) v v' src src' t t' fits ev es (rw past_is et) ∙ ap (λ (p : Piece). laid s.place p (lent v src t)) (sym (piece_one s j))
