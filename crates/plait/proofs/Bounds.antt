-- A round run of n kept points has at most 4 * 2^k * n vertices. The plan: two to a side with an arc between them are at most 2 * 2^k, so a joint has at most
-- 4 * 2^k; a cap has two, and 2 * 2^k - 1 more. Assumes nothing.
use Prim.Native.Nat.{ℕ, suc, ◌+◌, ◌-◌, ◌*◌, ◌^◌, ◌≤◌}
use mathlib.Core.Path.{◌≡◌, refl}
use mathlib.Core.Bool.{Bool, true, false, cond}
use mathlib.Core.List.{List, [], ◌∷◌}
use native.Mathlib.Omega.{arith}
use lib.Ieee.{Float}
use lib.ListN.{length}
use Rattle.plane.specs.Vector.{negated_of}
use Rattle.plane.specs.declared.vector.Point.{Point}
use Rattle.endpoint.specs.Endpoint.{side_count_of, single_of}
use Rattle.endpoint.specs.declared.Endpoint.{Endpoint}
use Rattle.endpoint.specs.declared.EndpointData.{EndpointData}
use Rattle.endpoint.specs.declared.Side.TheVariants.{Positive, Negative}
use Rattle.options.specs.declared.Stroke.{Stroke}
use Rattle.joints.specs.Joint.{data_of, cap_of, start_cap_of, end_cap_of, joint_of, joints_from, joints_of}
use Rattle.joints.specs.Leg.{first_leg_of, next_leg_of}
use Rattle.joints.specs.declared.leg.Leg.{Leg}
use Rattle.joints.proofs.Lengths.{joints_length}
use Rattle.strip.specs.Joint.{vertex_count}
use Rattle.strip.proofs.Joints.{joint_few}
use Rattle.arc.proofs.Triangles.{pow_some}
use Rattle.fans.specs.Fans.{gets_arc}
use Rattle.fans.specs.declared.Round.{Round}
use Rattle.woven.specs.Counts.{arc_sides, added_of}
use Rattle.plait.proofs.Spinning.{single_none}

-- a is what an arc has
joint_bounded : (b c : Bool) (p n a : ℕ) → p ≤ 2 → n ≤ 2 → p + n + (cond b 1 0 + cond c 1 0) * a ≤ 4 * suc a
joint_bounded true true p n a h g = omega arith
joint_bounded true false p n a h g = omega arith
joint_bounded false true p n a h g = omega arith
joint_bounded false false p n a h g = omega arith

module _ (round : Bool) (a : ℕ) where
  more_bounded : (j : EndpointData) (js : List EndpointData) (n : ℕ) → vertex_count js + arc_sides round js * a ≤ n → vertex_count (j ∷ js) + arc_sides round (j ∷ js) * a ≤ 4 * suc a + n
  unfolding vertex_count arc_sides
  more_bounded j js n h =
      let q = joint_few j in
      let x = joint_bounded (gets_arc round j Positive) (gets_arc round j Negative) (side_count_of j.positive) (side_count_of j.negative) a (omega arith) (omega arith) in
      omega (arith, x, h)

  joints_bounded : (js : List EndpointData) → vertex_count js + arc_sides round js * a ≤ 4 * suc a * length js
  unfolding vertex_count arc_sides
  joints_bounded [] = omega arith
  joints_bounded (j ∷ js) = omega (arith, more_bounded j js (4 * suc a * length js) (joints_bounded js))

  -- a cap has two vertices, and no side of it an arc
  cap_two : (o : Stroke) (p : Endpoint) (v : Float) (x y out : Point) (js : List EndpointData) → let j = cap_of o p v x y out in
      vertex_count (j ∷ js) + arc_sides round (j ∷ js) * a ≡ 2 + (vertex_count js + arc_sides round js * a)
  unfolding vertex_count arc_sides cap_of data_of single_of
  cap_two o p v x y out js = rw (single_none round (cap_of o p v x y out) Positive _ _ refl, single_none round (cap_of o p v x y out) Negative _ _ refl) (omega arith)

  open_bounded : (o : Stroke) (leg : Leg) (ps : List Endpoint) → vertex_count (joints_from false o leg ps) + arc_sides round (joints_from false o leg ps) * a ≤ 2 + 4 * suc a * length ps
  unfolding joints_from end_cap_of vertex_count arc_sides
  open_bounded o leg [] = omega (arith, cap_two o leg.to leg.end leg.edge.positive.to leg.edge.negative.to leg.edge.t [])
  open_bounded o leg (p ∷ ps) =
      let next = next_leg_of o.half_width leg p in
      omega (arith, more_bounded (joint_of o leg next) (joints_from false o next ps) (2 + 4 * suc a * length ps) (open_bounded o next ps))

  run_bounded : (closed : Bool) (o : Stroke) (p0 p1 : Endpoint) (ps : List Endpoint) → let js = joints_of closed o (p0 ∷ p1 ∷ ps) in
      vertex_count js + arc_sides round js * a + cond closed 0 (2 * (2 * suc a - 1)) ≤ 4 * suc a * length (p0 ∷ p1 ∷ ps)
  unfolding joints_of start_cap_of
  run_bounded true o p0 p1 ps = rw (← joints_length true o p0 p1 ps) (omega (arith, joints_bounded (joints_of true o (p0 ∷ p1 ∷ ps))))
  run_bounded false o p0 p1 ps =
      let leg = first_leg_of o.half_width p0 p1 in
      let e = leg.edge in
      omega (arith, cap_two o leg.from leg.start e.positive.from e.negative.from (negated_of e.t) (joints_from false o leg ps), open_bounded o leg ps)

pub round_bounded : (closed : Bool) (o : Stroke) (r : Round) (p0 p1 : Endpoint) (ps : List Endpoint) → let js = joints_of closed o (p0 ∷ p1 ∷ ps) in
    vertex_count js + added_of closed r js ≤ 4 * 2 ^ r.detail * length (p0 ∷ p1 ∷ ps)
round_bounded closed o r p0 p1 ps =
    let k = r.detail in
    let e : suc (2 ^ k - 1) ≡ 2 ^ k = omega (arith, pow_some k) in
    caps closed r.caps k _ _ _ (rw e at (run_bounded r.joins (2 ^ k - 1) closed o p0 p1 ps))
  where
    caps : (closed round : Bool) (k v s n : ℕ) → v + s + cond closed 0 (2 * (2 * 2 ^ k - 1)) ≤ n → v + (s + cond closed 0 (cond round (2 * (2 ^ suc k - 1)) 0)) ≤ n
    caps true round k v s n h = omega arith
    caps false true k v s n h = omega arith
    caps false false k v s n h = omega arith
