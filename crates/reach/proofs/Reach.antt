-- W-214, whole, and W-209's sentence of how long arcs are. The cut runs of an accepted path have their points inside the limits, and few enough; so each run's vertices are in reach, where no
-- join is clipped, their advancements do not fall, and its arcs' are h long; so those of the mesh, and each five floats of the list that the call leaves. Assumes nothing.
use mathlib.Core.Path.{◌≡◌, refl, subst}
use Prim.Native.Nat.{ℕ, ◌^◌, ◌≤◌, ◌<◌}
use mathlib.Core.Bool.{Bool, true, false}
use mathlib.Core.List.{List, [], ◌∷◌}
use native.Mathlib.Nat.{le_trans, mul-le-mul_right, zero-add}
use native.Mathlib.Omega.{arith}
use borrow.Author.Tests.{eqb-true}
use lib.Dec.{eqb, lit≤}
use lib.Ieee.{Float}
use lib.ListN.{length}
use Rattle.refusals.specs.Numbers.{number_of, accepted}
use Rattle.plane.specs.Normal.{pick}
use Rattle.plane.specs.declared.vector.Point.{Point}
use Rattle.endpoint.specs.declared.Endpoint.{Endpoint}
use Rattle.endpoint.specs.declared.LineJoin.TheVariants.{Miter, MiterClip, Bevel, Round}
use Rattle.join.specs.Side.{is_clip}
use Rattle.options.specs.Options.{line_join_of, prepared_of, stroke_of}
use Rattle.options.specs.declared.Options.{Options}
use Rattle.options.specs.declared.Stroke.{Stroke}
use Rattle.path.specs.Path.{Sound}
use Rattle.path.specs.Runs.{Run}
use Rattle.cuts.proofs.Checked.{cut_sound}
use Rattle.lists.specs.All.{All}
use Rattle.pieces.specs.Piece.{Vertex, Lists}
use Rattle.runs.specs.Runs.{runs_of, path_runs, mesh_vertices}
use Rattle.mesh.specs.Mesh.{outcome_of}
use Rattle.rounding.proofs.Scales.{one}
use Rattle.units.proofs.Normals.{past_threshold}
use Rattle.units.proofs.Vectors.{UnitVector}
use Rattle.stays.specs.Stays.{RunIn}
use Rattle.far.proofs.Path.{path_few, drawn_in}
use Rattle.far.proofs.Ranges.{Limit, accepted as accepted_options, near_limit}
use Rattle.reach.specs.Reach.{AtMost, float_at, Reached, left_out, Asked, Proved, NoneFalls, Advances}
use Rattle.reach.specs.Lengths.{AllLong, ArcsLong}
use Rattle.reach.specs.Threshold.{OneLong, PastThreshold}
use Rattle.reach.proofs.Widths.{Wide, wide}
use Rattle.reach.proofs.Joints.{Held}
use Rattle.reach.proofs.Advancements.{From}
use Rattle.reach.proofs.Drawn.{run_drawn, all_held, all_from}
use Rattle.reach.proofs.Dashes.{Few, cut_few}
use Rattle.reach.proofs.Mesh.{blank, Left, left}
use Rattle.reach.proofs.Runs.{at_most, all_at, Goods, mesh_all, Reads, none_falls, all_long}

looser : {z : Float} {j k : ℕ} → AtMost j z → j ≤ k → AtMost k z
looser a l = record { down = a.down; units = a.units; value = a.value; most = le_trans a.most (mul-le-mul_right (2 ^ 149) l) }

-- ---- why: past the threshold
unit_vector : {v : Point} → OneLong v → UnitVector v
unfolding one
unit_vector u = record {
  at = record { s = u.x_down; x = u.x; x_is = u.x_is; t = u.y_down; y = u.y; y_is = u.y_is };
  unity = record { high = u.most; low = u.least };
}

pub normal_bounded : PastThreshold
normal_bounded v1 v2 U1 U2 e =
    let R = past_threshold v1 v2 (unit_vector U1) (unit_vector U2) e in
    let c = R.at in
    (at_most (record { s = c.s; size = c.x; value = c.x_is; within = R.x_in }), at_most (record { s = c.t; size = c.y; value = c.y_is; within = R.y_in }))

-- ---- a join that is not number 1 does not clip
number_unclipped : (n : ℕ) → (n ≡ left_out → ⊥) → is_clip (line_join_of n) ≡ false
unfolding line_join_of
number_unclipped n f = go (eqb n 0) (eqb n 1) (eqb n 2) (eqb-true n 1)
  where
    go : (a b c : Bool) → (b ≡ true → n ≡ 1) → is_clip (pick a Miter (pick b MiterClip (pick c Bevel Round))) ≡ false
    go true b c g = refl
    go false true c g = absurd (f (g refl))
    go false false true g = refl
    go false false false g = refl

-- ---- the call
module _ (verbs : List ℕ) (coords : List Float) (options : Options) (ds : List Float) (l : Lists) (e : (outcome_of verbs coords options ds l).answer.number ≡ number_of accepted) where
  abbrev o : Stroke
  o = (stroke_of options ds).stroke

  abbrev rs : List (Run Endpoint)
  rs = path_runs o ds verbs coords

  abbrev L : Left verbs coords options ds l
  L = left verbs coords options ds l e

  abbrev S : Sound verbs coords
  S = (cut_sound o.near ds o.offset verbs coords L.earned.accepted).0

  abbrev W : Wide o
  W = wide options ds o L.earned.within

  abbrev N : Limit o.near
  N = near_limit options ds o L.earned.within

  runs_drawn : (qs : List (Run Endpoint)) → All RunIn qs → All Few qs → Goods o W N qs
  runs_drawn [] i f = tt
  runs_drawn (q ∷ qs) i f = (run_drawn o W N q.closed q.points f.0 i.0, runs_drawn qs i.1 f.1)

  all_drawn : Goods o W N rs
  all_drawn = runs_drawn rs (drawn_in options ds o verbs coords L.earned.within S) (cut_few o.near ds o.offset (runs_of verbs coords) (path_few verbs coords S))

  unclipped : (options.line_join ≡ left_out → ⊥) → is_clip o.line_join ≡ false
  unclipped f = subst (λ (s : Stroke). is_clip s.line_join ≡ false) (accepted_options options ds o L.earned.within).prepared (unfold prepared_of in (number_unclipped options.line_join f))

  reached : (options.line_join ≡ left_out → ⊥) → (i : ℕ) → i < (outcome_of verbs coords options ds l).answer.vertices → Reached (outcome_of verbs coords options ds l) 1892352 227 i
  reached f i h =
      let k : i < length (mesh_vertices o rs) = omega (arith, L.count) in
      let v = all_at Held (mesh_vertices o rs) blank i (mesh_all o W N Held (λ n vs D. all_held o W N D (unclipped f)) rs all_drawn) k in
      let s = L.reads i k in
      record { x = rw s.x (at_most v.x); y = rw s.y (at_most v.y); normal_x = rw s.normal_x (at_most v.normal_x); normal_y = rw s.normal_y (at_most v.normal_y) }

  advanced : (i : ℕ) → i < (outcome_of verbs coords options ds l).answer.vertices → AtMost (2 ^ 33) (float_at (outcome_of verbs coords options ds l) i 4)
  advanced i h =
      let k : i < length (mesh_vertices o rs) = omega (arith, L.count) in
      let f = all_at (λ (v : Vertex). From 0 v.advancement) (mesh_vertices o rs) blank i (mesh_all o W N (λ (v : Vertex). From 0 v.advancement) (λ n vs D. all_from o W N D) rs all_drawn) k in
      rw (L.reads i k).advancement (at_most (record { s = false; size = f.units; value = f.value; within = f.most }))

  read : Reads o W N (outcome_of verbs coords options ds l) 0 (mesh_vertices o rs)
  read i h = rw zero-add (L.reads i h)

  falling : NoneFalls (outcome_of verbs coords options ds l) o 0 rs
  falling = none_falls o W N (outcome_of verbs coords options ds l) 0 rs all_drawn read

  long : AllLong (outcome_of verbs coords options ds l) o 0 rs
  long = all_long o W N (outcome_of verbs coords options ds l) 0 rs all_drawn read

-- ---- as tight as it is proved, and "at most 4,194,304 in size"
pub proved : Proved
proved verbs coords options ds l e f i h = reached verbs coords options ds l e f i h

pub asked : Asked
asked verbs coords options ds l e f i h =
    let r = proved verbs coords options ds l e f i h in
    record { x = looser r.x (lit≤ tt); y = looser r.y (lit≤ tt); normal_x = looser r.normal_x (lit≤ tt); normal_y = looser r.normal_y (lit≤ tt) }

pub advances : Advances
advances verbs coords options ds l e = (advanced verbs coords options ds l e, falling verbs coords options ds l e)

-- ---- W-209's arcs
pub arcs_long : ArcsLong
arcs_long verbs coords options ds l e = long verbs coords options ds l e
