-- A joint's step, counted: each of its vertices brings a triangle, but for the first two of a run. The plan: two triangles to the section before the joint, where the
-- run has begun, and two fewer than its vertices within it (`step_length`); so the state counted is the state (`stepped_is`). Assumes nothing.
use Prim.Native.Nat.{ℕ, ◌+◌, ◌-◌}
use mathlib.Core.Path.{◌≡◌, refl, sym, ◌∙◌}
use mathlib.Core.Bool.{Bool, true, false, cond}
use mathlib.Core.List.{[], ◌∷◌}
use mathlib.Core.Logic.{◌≢◌}
use native.Mathlib.Omega.{arith}
use lib.ListN.{length, length-append}
use Rattle.endpoint.specs.Endpoint.{side_count_of}
use Rattle.endpoint.specs.declared.EndpointData.{EndpointData}
use Rattle.pieces.specs.Piece.{Lists, Lays}
use Rattle.strip.specs.declared.Strip.{Strip}
use Rattle.strip.specs.declared.section.Section.{Section}
use Rattle.strip.specs.Joint.{joint_count}
use Rattle.strip.specs.Section.{section_of, before_of, after_of}
use Rattle.strip.specs.Triangle.{between, past}
use Rattle.strip.specs.Strip.{next_of, step_triangles, step_of, stepped_of, steps_of, Behind, Sound, piece_of, StepFits, StripFits, StripPasses}
use Rattle.strip.proofs.Joints.{joint_few, after_counted, length_joint, length_more}
use Rattle.strip.proofs.Triangles.{between_same}
use Rattle.strip.proofs.Facts.Ladder.{between_both, length_ladder, inner_triangles, length_inner, before_n}

-- to a section of new numbers come two triangles
to_new : (s : Section) (m q : ℕ) → let n = s.negative.0 in let p = s.positive.0 in (n ≢ p) × (p ≢ q) × (n ≢ q) × (q ≢ m) × (n ≢ m) → length (between s (section_of m q)) ≡ 2
to_new s m q d = rw (between_both s.negative.0 s.positive.0 m q q m (refl, refl, d.0, d.1, d.2, d.3, d.4), length_ladder)

within : (base : ℕ) (j : EndpointData) → 2 + length (between (before_of base j) (after_of base j)) ≡ joint_count j
within base j = rw (inner_triangles base j, length_ladder) (length_inner base j)

step_length : (s : Strip) (j : EndpointData) → Sound s → length (step_triangles s j) + cond s.begun 0 2 ≡ joint_count j
unfolding step_triangles
step_length s j o = go s.begun o.behind
  where
    base : ℕ
    base = next_of s

    b : Section
    b = before_of base j

    a : Section
    a = after_of base j

    go : (t : Bool) → (t ≡ true → Behind s) → length (past (cond t s.last b) b a) + cond t 0 2 ≡ joint_count j
    go true h =
        let g = h refl in
        let two = to_new s.last (before_n base j) base (omega (arith, g, joint_few j)) in
        rw length-append (omega (arith, two, within base j))
    go false h = rw (length-append, between_same b) (omega (arith, within base j))

faces : (t : Bool) (m l c : ℕ) → l + cond t 0 2 ≡ c → m + l ≡ cond t (m + c) (m + c - 2)
faces true m l c h = omega arith
faces false m l c h = omega arith

stepped_is : (s : Strip) (j : EndpointData) → Sound s → step_of s j ≡ stepped_of s (side_count_of j.positive) (side_count_of j.negative)
unfolding step_of stepped_of
stepped_is s j o = rw (length_joint j, faces s.begun s.place.triangles (length (step_triangles s j)) (joint_count j) (step_length s j o), after_counted (next_of s) j)

-- a pass over one joint, whose sides have p and n vertices
module _ {write : Bool} {s : Strip} {j : EndpointData} {l : Lists} (h : StripFits write s (j ∷ []) l)
    (p n : ℕ) (ep : p ≡ side_count_of j.positive) (en : n ≡ side_count_of j.negative) where
  pub steps_one : StepFits s p n
  steps_one = omega (arith, joint_few j, h.fits.numbers, length_more j [], h.fits.faces)

  pub puts_one : {s' : Strip} {l' : Lists} → s' ≡ stepped_of s p n → Lays write s.place (piece_of s (j ∷ [])) l l' → StripPasses write (j ∷ []) s l l' s'
  unfolding steps_of
  puts_one e g = record { state = e ∙ rw (ep, en) (sym (stepped_is s j h.sound)); lays = g }
