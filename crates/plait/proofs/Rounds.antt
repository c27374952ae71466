-- Demand 3 of what a round run of two kept points or more draws. The plan: braid's facts of the items that `Along` gives, said of their piece for open and closed
-- runs alike (`Braided`); then counts, soundness, and a run without arcs. Assumes nothing.
use Prim.Native.Nat.{ℕ, suc, ◌+◌, ◌-◌, ◌*◌, ◌^◌}
use mathlib.Core.Path.{◌≡◌, refl, sym, subst, ◌∙◌}
use mathlib.Core.Bool.{Bool, true, false, ◌||◌, cond, true≢false}
use mathlib.Core.List.{List, [], ◌∷◌, ◌++◌, append-nil}
use native.Mathlib.Omega.{arith}
use lib.ListN.{length, length-append}
use Rattle.endpoint.specs.declared.Endpoint.{Endpoint}
use Rattle.endpoint.specs.declared.EndpointData.{EndpointData}
use Rattle.endpoint.specs.declared.Side.{Side}
use Rattle.endpoint.specs.declared.Side.TheVariants.{Positive, Negative}
use Rattle.endpoint.specs.declared.SidePoints.{SidePoints}
use Rattle.endpoint.specs.declared.SidePoints.TheVariants.{Single, Pair}
use Rattle.endpoint.specs.declared.VertexId.{VertexId}
use Rattle.pieces.specs.Piece.{Vertex, Piece}
use Rattle.vertices.specs.Base.{side_points_of}
use Rattle.options.specs.declared.Stroke.{Stroke}
use Rattle.joints.specs.Joint.{start_cap_of, joints_from, joints_of}
use Rattle.joints.specs.Leg.{first_leg_of}
use Rattle.joints.specs.declared.leg.Leg.{Leg}
use Rattle.strip.specs.Joint.{vertex_count, vertices_of}
use Rattle.strip.specs.Strip.{start_of, next_of, step_of, steps_of}
use Rattle.strip.specs.Triangle.{between, triangles_of}
use Rattle.strip.proofs.Joints.{length_vertices}
use Rattle.fans.specs.Fans.{gets_arc}
use Rattle.fans.specs.Weft.{faces, then}
use Rattle.fans.specs.declared.Round.{Round}
use Rattle.bends.specs.Weave.{joints_in, woven_from}
use Rattle.weave.specs.Points.{bends_from, bends_of}
use Rattle.woven.specs.Counts.{arc_sides, added_of}
use Rattle.woven.specs.Woven.{woven_of, round_piece}
use Rattle.woven.proofs.Sizes.{joints_from_lem}
use Rattle.braid.specs.Weave.{Item, added, strip, woven}
use Rattle.triangles.specs.Attached.{Covers}
use Rattle.braid.specs.Round.{open_items, closed_items, side_added, joints_added}
use Rattle.braid.proofs.Woven.{woven_none}
use Rattle.braid.proofs.Rounds.{strip_open, strip_closed, open_covers, closed_covers}
use Rattle.braid.proofs.Tallies.{open_added, closed_added, open_tally, closed_tally}
use Rattle.plait.specs.Counts.{Counted}
use Rattle.plait.specs.Items.{side_levels, levels_of, cap_levels, Spun}
use Rattle.plait.proofs.Along.{open_spun, closed_spun}
use Rattle.plait.proofs.Spinning.{single_none}

-- ---- what the arcs add
side_added_lem : (r : Round) (j : EndpointData) (side : Side) → side_added (side_levels r side j) (side_points_of j side) ≡ cond (gets_arc r.joins j side) 1 0 * (2 ^ r.detail - 1)
unfolding side_added
side_added_lem r j side = go (side_points_of j side) refl
  where
    one : (b : Bool) (k : ℕ) → 2 ^ cond b k 0 - 1 ≡ cond b 1 0 * (2 ^ k - 1)
    one true k = omega arith
    one false k = omega arith

    go : (p : SidePoints) → side_points_of j side ≡ p → side_added (side_levels r side j) p ≡ cond (gets_arc r.joins j side) 1 0 * (2 ^ r.detail - 1)
    go (Single x y) h = rw (single_none r.joins j side x y h) (omega arith)
    go (Pair x0 y0 x1 y1) h = one (gets_arc r.joins j side) r.detail

joints_added_lem : (r : Round) (js : List EndpointData) → joints_added (levels_of r) js ≡ arc_sides r.joins js * (2 ^ r.detail - 1)
unfolding joints_added arc_sides
joints_added_lem r [] = omega arith
joints_added_lem r (j ∷ js) = omega (arith, side_added_lem r j Positive, side_added_lem r j Negative, joints_added_lem r js)

caps_added : (b : Bool) (k : ℕ) → (2 ^ cond b (suc k) 0 - 1) + (2 ^ cond b (suc k) 0 - 1) ≡ cond b (2 * (2 ^ suc k - 1)) 0
caps_added true k = omega arith
caps_added false k = omega arith

sides_none : (js : List EndpointData) → arc_sides false js ≡ 0
unfolding arc_sides gets_arc
sides_none [] = refl
sides_none (j ∷ js) = omega (arith, sides_none js)

adds_none : (closed joins caps : Bool) (n m : ℕ) (js : List EndpointData) → (joins || caps) ≡ false → arc_sides joins js * n + cond closed 0 (cond caps m 0) ≡ 0
adds_none closed true caps n m js h = absurd (true≢false h)
adds_none true false caps n m js h = rw (sides_none js) (omega arith)
adds_none false false caps n m js h = rw (h, sides_none js) (omega arith)

-- ---- items with braid's facts, that are what f writes
pub record Braided (closed : Bool) (r : Round) (k : ℕ) (js : List EndpointData) (f : ℕ → Piece) : Type 0 where
  pub items : List Item
  pub spun : Spun items f
  pub adds : added items ≡ added_of closed r js
  pub strips : strip items ≡ triangles_of closed k js
  pub tally : (i : ℕ) → cond closed (length (woven i items)) (2 + length (woven i items)) ≡ vertex_count js + added items
  pub sound : Covers k (k + vertex_count js + added items) (woven (k + vertex_count js) items)

module _ (r : Round) (k : ℕ) (j i : EndpointData) (js : List EndpointData) (f : ℕ → Piece) where
  open_facts : Spun (open_items (levels_of r) (cap_levels r) (cap_levels r) k j i js) f → Braided false r k (j ∷ i ∷ js) f
  open_facts x =
      let c = cap_levels r in
      let a = open_added (levels_of r) c c k j i js in
      record {
        items = open_items (levels_of r) c c k j i js;
        spun = x;
        adds = omega (arith, a, joints_added_lem r (j ∷ i ∷ js), caps_added r.caps r.detail);
        strips = strip_open (levels_of r) c c k j i js;
        tally = λ n. omega (arith, a, open_tally (levels_of r) c c k n j i js);
        sound = open_covers (levels_of r) c c k j i js;
      }

  closed_facts : Spun (closed_items (levels_of r) k j i js) f → Braided true r k (j ∷ i ∷ js) f
  closed_facts x =
      let a = closed_added (levels_of r) k j i js in
      record {
        items = closed_items (levels_of r) k j i js;
        spun = x;
        adds = omega (arith, a, joints_added_lem r (j ∷ i ∷ js));
        strips = strip_closed (levels_of r) k j i js;
        tally = λ n. omega (arith, a, closed_tally (levels_of r) k n j i js);
        sound = closed_covers (levels_of r) k j i js;
      }

-- ---- a run's own
record Two (ps : List Endpoint) : Type 0 where
  first : Endpoint
  second : Endpoint
  rest : List Endpoint
  is : ps ≡ first ∷ second ∷ rest

two_at_least : (p0 p1 : Endpoint) (ps : List Endpoint) → Two (ps ++ p0 ∷ p1 ∷ [])
two_at_least p0 p1 [] = record { first = p0; second = p1; rest = []; is = refl }
two_at_least p0 p1 (p ∷ []) = record { first = p; second = p0; rest = p1 ∷ []; is = refl }
two_at_least p0 p1 (p ∷ q ∷ ps) = record { first = p; second = q; rest = ps ++ p0 ∷ p1 ∷ []; is = refl }

module _ (o : Stroke) (r : Round) (base : VertexId) where
  -- the numbers of a run's strip begin at its base
  from_base : next_of (start_of base) ≡ base.0
  from_base = omega arith

  -- what is woven round a closed run through the points ps
  abbrev round_weft : Leg → List Endpoint → List EndpointData → ℕ → Piece
  round_weft leg ps js = let s = steps_of (start_of base) js in then (woven_from o r (start_of base) false (bends_from true o leg ps)) (faces (between s.last s.first))

  closed_points : (leg : Leg) (p q : Endpoint) (qs : List Endpoint) → let js = joints_from true o leg (p ∷ q ∷ qs) in Braided true r (next_of (start_of base)) js (round_weft leg (p ∷ q ∷ qs) js)
  unfolding joints_from
  closed_points leg p q qs = closed_facts r (next_of (start_of base)) _ _ _ _ (closed_spun o r base leg p (q ∷ qs))

  pub braided : (closed : Bool) (p0 p1 : Endpoint) (ps : List Endpoint) → Braided closed r base.0 (joints_of closed o (p0 ∷ p1 ∷ ps)) (woven_of closed o r base (p0 ∷ p1 ∷ ps))
  unfolding joints_of woven_of bends_of
  braided false p0 p1 ps =
      let leg = first_leg_of o.half_width p0 p1 in
      let z = open_spun o r base leg ps in
      let f : ℕ → Piece = woven_from o r (step_of (start_of base) (start_cap_of o leg)) r.caps (bends_from false o leg ps) in
      let x = open_facts r (next_of (start_of base)) (start_cap_of o leg) z.second z.rest f z.spun in
      let y = subst (λ (js : List EndpointData). Braided false r (next_of (start_of base)) (start_cap_of o leg ∷ js) f) (sym z.joints) x in
      subst (λ (k : ℕ). Braided false r k (start_cap_of o leg ∷ joints_from false o leg ps) f) from_base y
  braided true p0 p1 ps =
      let leg = first_leg_of o.half_width p0 p1 in
      let z = two_at_least p0 p1 ps in
      let qs : List Endpoint = ps ++ p0 ∷ p1 ∷ [] in
      let x = closed_points leg z.first z.second z.rest in
      let y = subst (λ (l : List Endpoint). Braided true r (next_of (start_of base)) (joints_from true o leg l) (round_weft leg l (joints_from true o leg l))) (sym z.is) x in
      let w = subst (λ (js : List EndpointData). Braided true r (next_of (start_of base)) (joints_from true o leg qs) (round_weft leg qs js)) (sym (joints_from_lem true o leg qs)) y in
      subst (λ (k : ℕ). Braided true r k (joints_from true o leg qs) (round_weft leg qs (joints_in (bends_from true o leg qs)))) from_base w

-- ---- demand 3 of what it draws
module _ (closed : Bool) (o : Stroke) (r : Round) (base : VertexId) (p0 p1 : Endpoint) (ps : List Endpoint) where
  abbrev kept : List Endpoint
  kept = p0 ∷ p1 ∷ ps

  abbrev js : List EndpointData
  js = joints_of closed o kept

  abbrev at : ℕ
  at = base.0 + vertex_count js

  abbrev facts : Braided closed r base.0 js (woven_of closed o r base kept)
  facts = braided o r base closed p0 p1 ps

  pub round_counts : Counted closed (vertex_count js + added_of closed r js) (round_piece closed o r base kept)
  round_counts = record {
    vertices = rw length-append (omega (arith, length_vertices js, facts.spun.vertices at, facts.adds));
    triangles = rw (facts.spun.triangles at, ← facts.adds) (facts.tally at);
  }

  pub round_covers : Covers base.0 (base.0 + (vertex_count js + added_of closed r js)) (round_piece closed o r base kept).triangles
  round_covers =
      let hi : base.0 + vertex_count js + added facts.items ≡ base.0 + (vertex_count js + added_of closed r js) = omega (arith, facts.adds) in
      rw (facts.spun.triangles at) (subst (λ (n : ℕ). Covers base.0 n (woven at facts.items)) hi facts.sound)

  -- where nothing is round, its strip alone
  pub round_none : (r.joins || r.caps) ≡ false → round_piece closed o r base kept ≡ record { vertices = vertices_of js; triangles = triangles_of closed base.0 js }
  round_none plain =
      let none : added facts.items ≡ 0 = facts.adds ∙ adds_none closed r.joins r.caps _ _ js plain in
      let v : (woven_of closed o r base kept at).vertices ≡ [] = empty (woven_of closed o r base kept at).vertices (facts.spun.vertices at ∙ none) in
      let t : (woven_of closed o r base kept at).triangles ≡ triangles_of closed base.0 js = facts.spun.triangles at ∙ woven_none at facts.items none ∙ facts.strips in
      rw (v, t, append-nil (vertices_of js))
    where
      empty : (l : List Vertex) → length l ≡ 0 → l ≡ []
      empty [] e = refl
      empty (x ∷ l) e = absurd (omega arith)
