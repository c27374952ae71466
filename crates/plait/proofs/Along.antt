-- A run's joints as items. The plan: one joint (`bend_spun`); joint by joint behind a first one (`along`), whatever comes at the run's end; then an open run and a
-- closed one from their first joint. Assumes nothing.
use Prim.Native.Nat.{ℕ, ◌+◌, ◌-◌}
use mathlib.Core.Path.{◌≡◌, refl, sym, subst}
use mathlib.Core.Bool.{Bool, true, false}
use mathlib.Core.List.{List, [], ◌∷◌, ◌++◌, append-nil, append_assoc}
use native.Mathlib.Omega.{arith}
use Rattle.plane.specs.Vector.{negated_of}
use Rattle.endpoint.specs.Endpoint.{side_count_of, single_of}
use Rattle.endpoint.specs.declared.Endpoint.{Endpoint}
use Rattle.endpoint.specs.declared.EndpointData.{EndpointData}
use Rattle.endpoint.specs.declared.Side.TheVariants.{Positive, Negative}
use Rattle.endpoint.specs.declared.VertexId.{VertexId}
use Rattle.pieces.specs.Piece.{Piece}
use Rattle.options.specs.declared.Stroke.{Stroke}
use Rattle.joints.specs.Joint.{data_of, cap_of, start_cap_of, end_cap_of, joint_of, joints_from}
use Rattle.joints.specs.Leg.{next_leg_of}
use Rattle.joints.specs.declared.leg.Leg.{Leg}
use Rattle.strip.specs.Joint.{joint_count}
use Rattle.strip.specs.Section.{section_of, before_of, after_of}
use Rattle.strip.specs.Strip.{start_of, next_of, step_of, steps_of}
use Rattle.strip.specs.Triangle.{between}
use Rattle.strip.specs.declared.Strip.{Strip}
use Rattle.strip.specs.declared.section.Section.{Section}
use Rattle.strip.proofs.Steps.{step_next}
use Rattle.strip.proofs.Triangles.{between_same}
use Rattle.fans.specs.Weft.{nothing, faces, then}
use Rattle.fans.specs.declared.Round.{Round}
use Rattle.bends.specs.Bend.{edge_faces, due_weft, arcs_weft, end_weft, bend_weft}
use Rattle.bends.specs.Weave.{woven_from}
use Rattle.bends.specs.declared.Bend.{Bend}
use Rattle.weave.specs.Points.{bend_of, end_bend, bends_from}
use Rattle.braid.specs.Weave.{Item}
use Rattle.braid.specs.Round.{ones, Levels, side_arc, joint_items, onward, start_cap, end_cap, open_items}
use Rattle.plait.specs.Items.{side_levels, levels_of, cap_levels, Spun}
use Rattle.plait.proofs.Spinning.{spun_then, spun_assoc, spun_last, spun_none, spun_faces, spun_start, spun_end, spun_side}

-- ---- one joint, with a fan before it or behind it
abbrev arc_items : Round → ℕ → EndpointData → List Item
arc_items r k j = side_arc (side_levels r Positive j) k j.positive ++ side_arc (side_levels r Negative j) (k + side_count_of j.positive) j.negative

module _ (o : Stroke) (r : Round) (s : Strip) (due : Bool) (b : Bend) where
  abbrev before : Section
  before = before_of (next_of s) b.joint

  abbrev after : Section
  after = after_of (next_of s) b.joint

  arcs_spun : Spun (arc_items r (next_of s) b.joint) (arcs_weft r b before)
  unfolding arcs_weft
  arcs_spun = spun_then (spun_side r b.joint Positive before.positive b.leg.edge.t) (spun_side r b.joint Negative before.negative b.leg.edge.t)

  bend_spun : {ds es : List Item} → Spun ds (due_weft o r due s b.leg) → Spun es (end_weft r b before)
      → Spun (ones (edge_faces s before) ++ (ds ++ (joint_items (levels_of r) (next_of s) b.joint ++ es))) (bend_weft o r s due b)
  unfolding bend_weft
  bend_spun {ds} {es} d e =
      rw (append_assoc (ones (between before after)) (arc_items r (next_of s) b.joint) es)
      (spun_then (spun_faces (edge_faces s before)) (spun_then d (spun_then (spun_faces (between before after)) (spun_then arcs_spun e))))

-- ---- joint by joint behind a first one, f is the section before that
record On (f : Section) (s : Strip) : Type 0 where
  begun : s.begun ≡ true
  first : s.first ≡ f

step_on : (f : Section) (s : Strip) (j : EndpointData) → On f s → On f (step_of s j)
unfolding step_of
step_on f s j h = record { begun = refl; first = rw h.begun h.first }

edge_on : {f : Section} (s : Strip) (e : Section) → On f s → edge_faces s e ≡ between s.last e
unfolding edge_faces
edge_on s e h = rw h.begun

-- the section after a joint of two single sides, as every cap is, is the one before it
singles_same : (n : ℕ) → section_of (n + 1 + 1 - 1) (n + 1 - 1) ≡ section_of (n + 1) n
singles_same n =
    let z : n + 1 + 1 - 1 ≡ n + 1 = omega arith in
    let y : n + 1 - 1 ≡ n = omega arith in
    rw (z, y)

module _ (o : Stroke) (r : Round) where
  abbrev ls : Levels
  ls = levels_of r

  abbrev next : Leg → Endpoint → Leg
  next leg p = next_leg_of o.half_width leg p

  -- a joint and what comes behind it
  step_spun : {f : Section} (s : Strip) (due : Bool) (b : Bend) {ds es ps : List Item} {g : ℕ → Piece} → On f s
      → Spun ds (due_weft o r due s b.leg) → Spun es (end_weft r b (before_of (next_of s) b.joint)) → Spun ps g
      → Spun (ones (between s.last (before_of (next_of s) b.joint)) ++ (ds ++ (joint_items ls (next_of s) b.joint ++ (es ++ ps)))) (then (bend_weft o r s due b) g)
  step_spun s due b {ds} {es} {ps} {g} h d e x =
      let edge : List Item = ones (between s.last (before_of (next_of s) b.joint)) in
      let own : List Item = joint_items ls (next_of s) b.joint in
      let y : Spun (edge ++ (ds ++ (own ++ es))) (bend_weft o r s due b) = rw (edge_on s (before_of (next_of s) b.joint) h) at (bend_spun o r s due b d e) in
      rw (← append_assoc own es ps, ← append_assoc ds (own ++ es) ps, ← append_assoc edge (ds ++ (own ++ es)) ps) (spun_then y x)

  none_due : (s : Strip) (leg : Leg) → Spun [] (due_weft o r false s leg)
  unfolding due_weft
  none_due s leg = spun_none

  none_end : (leg to : Leg) (s : Section) → Spun [] (end_weft r (bend_of o leg to) s)
  unfolding end_weft
  none_end leg to s = spun_none

  -- whatever comes at the run's end
  along : (closed : Bool) (end : Section → List Item) (g : Strip → ℕ → Piece) (f : Section)
      → ((leg : Leg) (s : Strip) → On f s
      → Spun (onward ls end s.last (next_of s) (joints_from closed o leg [])) (then (woven_from o r s false (bends_from closed o leg [])) (g (steps_of s (joints_from closed o leg [])))))
      → (ps : List Endpoint) (leg : Leg) (s : Strip) → On f s
      → Spun (onward ls end s.last (next_of s) (joints_from closed o leg ps)) (then (woven_from o r s false (bends_from closed o leg ps)) (g (steps_of s (joints_from closed o leg ps))))
  unfolding joints_from bends_from woven_from onward steps_of step_of
  along closed end g f base [] leg s h = base leg s h
  along closed end g f base (p ∷ ps) leg s h =
      let b = bend_of o leg (next leg p) in
      let s1 = step_of s b.joint in
      let z = along closed end g f base ps (next leg p) s1 (step_on f s b.joint h) in
      spun_assoc (bend_weft o r s false b) (woven_from o r s1 false (bends_from closed o (next leg p) ps)) (g (steps_of s1 (joints_from closed o (next leg p) ps)))
      (step_spun s false b h (none_due s leg) (none_end leg (next leg p) (before_of (next_of s) b.joint)) (rw (step_next s b.joint) at z))

  -- ---- the two ends: an open run's last joint, and the way round
  end_same : (n : ℕ) (leg : Leg) → before_of n (end_cap_of o leg) ≡ after_of n (end_cap_of o leg)
  unfolding end_cap_of cap_of data_of single_of
  end_same n leg = sym (singles_same n)

  end_fan_lem : (n : ℕ) (leg : Leg) → Spun (end_cap (cap_levels r) (after_of n (end_cap_of o leg))) (end_weft r (end_bend o leg) (before_of n (end_cap_of o leg)))
  unfolding end_weft
  end_fan_lem n leg =
      let s = before_of n (end_cap_of o leg) in
      subst (λ (e : Section). Spun (end_cap (cap_levels r) e) (end_weft r (end_bend o leg) s)) (end_same n leg) (spun_end r.caps r.detail (end_cap_of o leg) s.negative s.positive leg.edge.t)

  open_end : {f : Section} (leg : Leg) (s : Strip) → On f s
      → Spun (onward ls (end_cap (cap_levels r)) s.last (next_of s) (joints_from false o leg [])) (then (woven_from o r s false (bends_from false o leg [])) nothing)
  unfolding joints_from bends_from woven_from onward
  open_end leg s h =
      let z = step_spun s false (end_bend o leg) h (none_due s leg) (end_fan_lem (next_of s) leg) (spun_then spun_none spun_none) in
      spun_assoc (bend_weft o r s false (end_bend o leg)) nothing nothing (rw (append-nil (end_cap (cap_levels r) (after_of (next_of s) (end_cap_of o leg)))) at z)

  closed_end : (f : Section) (leg : Leg) (s : Strip) → On f s
      → Spun (onward ls (λ x. ones (between x f)) s.last (next_of s) (joints_from true o leg [])) (then (woven_from o r s false (bends_from true o leg [])) (faces (between s.last s.first)))
  unfolding joints_from bends_from woven_from onward
  closed_end f leg s h = spun_then spun_none (rw h.first (spun_faces (between s.last f)))

  -- ---- from the first joint on: an open run's start cap brings nothing before its fan
  start_none : (n : ℕ) (leg : Leg) → joint_items ls n (start_cap_of o leg) ≡ []
  unfolding start_cap_of cap_of data_of single_of side_arc ones
  start_none n leg = rw (singles_same n, between_same (section_of (n + 1) n))

  start_fan_lem : (leg : Leg) (s : Strip) → Spun (start_cap (cap_levels r) s.last) (due_weft o r r.caps s leg)
  unfolding due_weft
  start_fan_lem leg s = spun_start r.caps r.detail (start_cap_of o leg) s.last.negative s.last.positive (negated_of leg.edge.t)

  module _ (base : VertexId) (leg : Leg) where
    abbrev k : ℕ
    k = next_of (start_of base)

    abbrev opened : Strip
    opened = step_of (start_of base) (start_cap_of o leg)

    open_on : On (before_of k (start_cap_of o leg)) opened
    unfolding step_of
    open_on = record { begun = refl; first = refl }

    -- the items of its first two joints, of which the second is i with the number m, and of the rest
    abbrev front : ℕ → EndpointData → List Item → List Item
    front m i rest =
        let e = after_of k (start_cap_of o leg) in
        joint_items ls k (start_cap_of o leg) ++ (ones (between e (before_of m i)) ++ (start_cap (cap_levels r) e ++ (joint_items ls m i ++ rest)))

    first_spun : (b : Bend) {es ps : List Item} {g : ℕ → Piece} → Spun es (end_weft r b (before_of (next_of opened) b.joint)) → Spun ps g
        → Spun (front (next_of opened) b.joint (es ++ ps)) (then (bend_weft o r opened r.caps b) g)
    unfolding step_of
    first_spun b {es} {ps} {g} e x =
        let m = next_of opened in
        let a = after_of k (start_cap_of o leg) in
        let rest : List Item = ones (between a (before_of m b.joint)) ++ (start_cap (cap_levels r) a ++ (joint_items ls m b.joint ++ (es ++ ps))) in
        subst (λ (l : List Item). Spun (l ++ rest) (then (bend_weft o r opened r.caps b) g)) (sym (start_none k leg)) (step_spun opened r.caps b open_on (start_fan_lem b.leg opened) e x)

    -- an open run's joints, with its items
    pub record Opened (ps : List Endpoint) : Type 0 where
      pub second : EndpointData
      pub rest : List EndpointData
      pub joints : joints_from false o leg ps ≡ second ∷ rest
      pub spun : Spun (open_items ls (cap_levels r) (cap_levels r) k (start_cap_of o leg) second rest) (woven_from o r opened r.caps (bends_from false o leg ps))

    numbered : (i : EndpointData) (js : List EndpointData) (f : ℕ → Piece)
        → Spun (front (next_of opened) i (onward ls (end_cap (cap_levels r)) (after_of (next_of opened) i) (next_of opened + joint_count i) js)) f
        → Spun (open_items ls (cap_levels r) (cap_levels r) k (start_cap_of o leg) i js) f
    numbered i js f x = subst (λ (m : ℕ). Spun (front m i (onward ls (end_cap (cap_levels r)) (after_of m i) (m + joint_count i) js)) f) (step_next (start_of base) (start_cap_of o leg)) x

    pub open_spun : (ps : List Endpoint) → Opened ps
    unfolding joints_from bends_from woven_from onward step_of
    open_spun [] =
        let z = first_spun (end_bend o leg) (end_fan_lem (next_of opened) leg) spun_none in
        record {
          second = end_cap_of o leg;
          rest = [];
          joints = refl;
          spun = numbered (end_cap_of o leg) [] (woven_from o r opened r.caps (end_bend o leg ∷ [])) (rw (append-nil (end_cap (cap_levels r) (after_of (next_of opened) (end_cap_of o leg)))) at z);
        }
    open_spun (p ∷ ps) =
        let b = bend_of o leg (next leg p) in
        let s = step_of opened b.joint in
        let f = before_of k (start_cap_of o leg) in
        let js = joints_from false o (next leg p) ps in
        let x = along false (end_cap (cap_levels r)) (λ t. nothing) f open_end ps (next leg p) s (step_on f opened b.joint open_on) in
        let y = spun_last (woven_from o r s false (bends_from false o (next leg p) ps)) x in
        record {
          second = b.joint;
          rest = js;
          joints = refl;
          spun = numbered b.joint js (woven_from o r opened r.caps (bends_from false o leg (p ∷ ps)))
              (first_spun b (none_end leg (next leg p) (before_of (next_of opened) b.joint)) (rw (step_next opened b.joint) at y));
        }

    -- ---- a closed run
    abbrev first : Endpoint → EndpointData
    first p = joint_of o leg (next leg p)

    closed_on : (p : Endpoint) → On (before_of k (first p)) (step_of (start_of base) (first p))
    unfolding step_of
    closed_on p = record { begun = refl; first = refl }

    pub closed_spun : (p : Endpoint) (ps : List Endpoint) → let js = joints_from true o (next leg p) ps in let s = steps_of (start_of base) (first p ∷ js) in
        Spun (joint_items ls k (first p) ++ onward ls (λ e. ones (between e (before_of k (first p)))) (after_of k (first p)) (k + joint_count (first p)) js)
        (then (woven_from o r (start_of base) false (bends_from true o leg (p ∷ ps))) (faces (between s.last s.first)))
    unfolding joints_from bends_from woven_from steps_of step_of edge_faces ones
    closed_spun p ps =
        let b = bend_of o leg (next leg p) in
        let s = step_of (start_of base) b.joint in
        let f = before_of k (first p) in
        let t = steps_of s (joints_from true o (next leg p) ps) in
        let y = bend_spun o r (start_of base) false b (none_due (start_of base) leg) (none_end leg (next leg p) f) in
        let x = along true (λ e. ones (between e f)) (λ u. faces (between u.last u.first)) f (closed_end f) ps (next leg p) s (closed_on p) in
        spun_assoc (bend_weft o r (start_of base) false b) (woven_from o r s false (bends_from true o (next leg p) ps)) (faces (between t.last t.first))
        (spun_then (rw (append-nil (joint_items ls k (first p))) at y) (rw (step_next (start_of base) (first p)) at x))
