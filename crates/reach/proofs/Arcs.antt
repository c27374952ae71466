-- W-209's arc vertices: of what is woven into a run every vertex is a unit vector times the half width about one of the run's points. The plan: an arc's normals are unit vectors where
-- its ends' are bounded (arc's `arc_unit`), and a joint's are, by `Sited`; then by what a joint brings, piece behind piece, and along the run. Assumes nothing.
use mathlib.Core.Path.{◌≡◌, refl, sym}
use Prim.Native.Nat.{ℕ, ◌+◌}
use mathlib.Core.Bool.{Bool, true, false, ◌&&◌, cond, true≢false}
use mathlib.Core.List.{List, [], ◌∷◌, map}
use lib.Dec.{lit≤}
use lib.Ieee.{Float}
use lib.ListN.{length}
use Rattle.plane.specs.Vector.{point, plus_of, minus_of, times_of, divided_of, negated_of}
use Rattle.plane.specs.declared.vector.Point.{Point}
use Rattle.endpoint.specs.declared.Endpoint.{Endpoint}
use Rattle.endpoint.specs.declared.EndpointData.{EndpointData}
use Rattle.endpoint.specs.declared.Side.{Side}
use Rattle.endpoint.specs.declared.Side.TheVariants.{Positive, Negative}
use Rattle.endpoint.specs.declared.SidePoints.{SidePoints}
use Rattle.endpoint.specs.declared.SidePoints.TheVariants.{Single, Pair}
use Rattle.endpoint.specs.declared.VertexId.{VertexId}
use Rattle.joints.specs.Joint.{data_of, cap_of, start_cap_of}
use Rattle.joints.specs.Leg.{first_leg_of}
use Rattle.lists.specs.All.{All}
use Rattle.lists.proofs.All.{all_append}
use Rattle.options.specs.declared.Stroke.{Stroke}
use Rattle.pieces.specs.Piece.{Vertex, Piece, none}
use Rattle.strip.specs.Section.{before_of, after_of}
use Rattle.strip.specs.Strip.{start_of, step_of, steps_of, next_of}
use Rattle.strip.specs.Triangle.{between}
use Rattle.strip.specs.declared.Strip.{Strip}
use Rattle.strip.specs.declared.section.Section.{Section}
use Rattle.vertices.specs.Base.{side_points_of}
use Rattle.vertices.specs.Vertex.{vertex_of}
use Rattle.arc.specs.Arc.{arc_normals, arc_vertex_of, arc_vertices, recorded, cap_piece}
use Rattle.arc.specs.declared.End.{End}
use Rattle.arc.specs.declared.Hub.{Hub}
use Rattle.arc.proofs.Lengths.{Direction, unit_direction, AllUnit, arc_unit}
use Rattle.fans.specs.Fans.{normal_at, first_normal, last_normal, hub_of, gets_arc, side_arc, side_weft, cap_end, start_fan, end_fan}
use Rattle.fans.specs.Weft.{faces, given, then}
use Rattle.fans.specs.declared.Round.{Round}
use Rattle.bends.specs.Bend.{edge_faces, due_weft, arcs_weft, end_weft, bend_weft}
use Rattle.bends.specs.Weave.{joints_in, woven_from}
use Rattle.bends.specs.declared.Bend.{Bend}
use Rattle.weave.specs.Points.{bends_of}
use Rattle.woven.specs.Woven.{woven_of}
use Rattle.units.proofs.Vectors.{UnitVector, reversed}
use Rattle.stays.specs.Stays.{Inside}
use Rattle.far.proofs.Ranges.{Limit}
use Rattle.reach.proofs.Widths.{Wide}
use Rattle.reach.proofs.Beside.{normal, looser}
use Rattle.reach.proofs.Edges.{x_in, y_in, Lies}
use Rattle.reach.proofs.Joints.{SideLies, Sited, start_sited}
use Rattle.reach.proofs.Advancements.{From, from_none}
use Rattle.reach.proofs.Course.{Unclipped, Stands, Course, standing}

-- ---- what all vertices of a piece have, wherever it stands
abbrev pub Throughout : (Vertex → Type 0) → (ℕ → Piece) → Type 0
Throughout P f = (i : ℕ) → All P (f i).vertices

module _ (P : Vertex → Type 0) where
  then_all : (f g : ℕ → Piece) → Throughout P f → Throughout P g → Throughout P (then f g)
  unfolding then
  then_all f g F G i = let n = i + length (f i).vertices in all_append P (f i).vertices (g n).vertices (F i) (G n)

  given_all : (t : Bool) (f : ℕ → Piece) → (t ≡ true → Throughout P f) → Throughout P (given t f)
  given_all t f F i = go t F
    where
      go : (t : Bool) → (t ≡ true → Throughout P f) → All P (cond t (f i) none).vertices
      go true F = F refl i
      go false F = tt

first_true : (a b : Bool) → (a && b) ≡ true → a ≡ true
first_true true b e = refl
first_true false b e = absurd (true≢false (sym e))

module _ (o : Stroke) (S : Wide o) where
  abbrev h : Float
  h = o.half_width

  -- a vertex about a point of the run, at a unit vector times the half width, with that point's advancement
  pub record OnArc (v : Vertex) : Type 0 where
    pub centre : Endpoint
    pub inside : Inside centre
    pub normal : Point
    pub unit : UnitVector normal
    pub advancement : Float
    pub from : From 0 advancement
    pub source : ℕ
    pub is : v ≡ vertex_of (plus_of centre.position (times_of normal h)) normal advancement source

  -- ---- the normals of a joint's points
  bounded_normal : (j : EndpointData) (J : Sited o S j) (x y : Float) → Lies S.half J.centre J.inside (point x y) 226 → Direction (normal_at j x y)
  unfolding normal_at minus_of divided_of
  bounded_normal j J x y L =
      let c = J.centre in
      let P = J.inside in
      rw (J.at, J.wide)
      (record {
        x = looser 227 134217728 (lit≤ tt) (normal S.half c.position.x (x_in P) 226 (lit≤ tt) L.x);
        y = looser 227 134217728 (lit≤ tt) (normal S.half c.position.y (y_in P) 226 (lit≤ tt) L.y);
      })

  module _ (j : EndpointData) (J : Sited o S j) where
    first_direction : (p : SidePoints) → SideLies S.half J.centre J.inside p → Direction (first_normal j p)
    unfolding first_normal
    first_direction (Single x y) L = bounded_normal j J x y L
    first_direction (Pair x0 y0 x1 y1) L = bounded_normal j J x0 y0 L.0

    last_direction : (p : SidePoints) → SideLies S.half J.centre J.inside p → Direction (last_normal j p)
    unfolding last_normal
    last_direction (Single x y) L = bounded_normal j J x y L
    last_direction (Pair x0 y0 x1 y1) L = bounded_normal j J x1 y1 L.1

    lies : (side : Side) → SideLies S.half J.centre J.inside (side_points_of j side)
    lies Positive = J.positive
    lies Negative = J.negative

  -- ---- an arc, and a cap's fan
  record Centred (hub : Hub) : Type 0 where
    pub centre : Endpoint
    pub inside : Inside centre
    pub at : hub.position ≡ centre.position
    pub wide : hub.half_width ≡ h
    pub from : From 0 hub.advancement
    pub ahead : UnitVector hub.ahead

  centred : (j : EndpointData) (side : Side) (ahead : Point) → Sited o S j → From 0 j.advancement → UnitVector ahead → Centred (hub_of j side ahead)
  unfolding hub_of
  centred j side ahead J f U = record { centre = J.centre; inside = J.inside; at = J.at; wide = J.wide; from = f; ahead = U }

  on_arc : (hub : Hub) → Centred hub → (m : Point) → UnitVector m → OnArc (arc_vertex_of hub m)
  unfolding arc_vertex_of
  on_arc hub C m U = record {
    centre = C.centre;
    inside = C.inside;
    normal = m;
    unit = U;
    advancement = hub.advancement;
    from = C.from;
    source = hub.source;
    is = rw (C.at, C.wide);
  }

  all_on : (hub : Hub) → Centred hub → (ms : List Point) → AllUnit ms → All OnArc (map (arc_vertex_of hub) ms)
  all_on hub C [] U = tt
  all_on hub C (m ∷ ms) U = (on_arc hub C m U.0, all_on hub C ms U.1)

  arc_on : (k : ℕ) (hub : Hub) → Centred hub → (a b : Point) → Direction a → Direction b → All OnArc (arc_vertices k hub a b)
  unfolding arc_vertices
  arc_on k hub C a b A B = all_on hub C (arc_normals k hub.ahead a b) (arc_unit k hub.ahead a b C.ahead A B)

  fan_on : (k : ℕ) (hub : Hub) (source i : ℕ) (a b : End) → Centred hub → Direction a.normal → Direction b.normal → All OnArc (cap_piece k hub source i a b).vertices
  fan_on k hub source i a b C A B =
      let t = hub.ahead in
      let T = unit_direction t C.ahead in
      let near = recorded hub source in
      let N : Centred near = record { centre = C.centre; inside = C.inside; at = C.at; wide = C.wide; from = C.from; ahead = C.ahead } in
      (on_arc hub C t C.ahead, all_append OnArc (arc_vertices k near a.normal t) (arc_vertices k hub t b.normal) (arc_on k near N a.normal t A T) (arc_on k hub C t b.normal T B))

  module _ (k : ℕ) (j : EndpointData) (J : Sited o S j) (f : From 0 j.advancement) (ahead : Point) (U : UnitVector ahead) where
    side_arc_lem : (side : Side) (first : VertexId) → Throughout OnArc (side_arc k j side first ahead)
    side_arc_lem side first i =
        let p = side_points_of j side in
        arc_on k (hub_of j side ahead) (centred j side ahead J f U) (first_normal j p) (last_normal j p) (first_direction j J p (lies j J side)) (last_direction j J p (lies j J side))

    abbrev end_direction : (side : Side) → Direction (first_normal j (side_points_of j side))
    end_direction side = first_direction j J (side_points_of j side) (lies j J side)

    start_fan_lem : (n p : VertexId) → Throughout OnArc (start_fan k j n p ahead)
    unfolding start_fan
    start_fan_lem n p i = fan_on k (hub_of j Positive ahead) _ i (cap_end j Negative n) (cap_end j Positive p) (centred j Positive ahead J f U) (end_direction Negative) (end_direction Positive)

    end_fan_lem : (n p : VertexId) → Throughout OnArc (end_fan k j n p ahead)
    unfolding end_fan
    end_fan_lem n p i = fan_on k (hub_of j Positive ahead) _ i (cap_end j Positive p) (cap_end j Negative n) (centred j Positive ahead J f U) (end_direction Positive) (end_direction Negative)

  -- ---- what a joint brings
  module _ (L : Limit o.near) (r : Round) (round : r.joins ≡ true → Unclipped o S L) where
    module _ (b : Bend) (m : ℕ) (B : Stands o S L m b) where
      abbrev t : Point
      t = b.leg.edge.t

      abbrev T : UnitVector t
      T = B.leg.edge.t

      abbrev at : From 0 b.joint.advancement
      at = from_none B.at

      side_on : (side : Side) (first : VertexId) → Throughout OnArc (side_weft r b.joint side first t)
      unfolding side_weft gets_arc
      side_on side first = go r.joins round
        where
          go : (joins : Bool) → (joins ≡ true → Unclipped o S L) → Throughout OnArc (given (gets_arc joins b.joint side) (side_arc r.detail b.joint side first t))
          go true u = given_all OnArc (gets_arc true b.joint side) (side_arc r.detail b.joint side first t) (λ e. side_arc_lem r.detail b.joint (B.sited (u refl)) at t T side first)
          go false u = λ i. tt

      arcs_on : (s : Section) → Throughout OnArc (arcs_weft r b s)
      unfolding arcs_weft
      arcs_on s = then_all OnArc (side_weft r b.joint Positive s.positive t) (side_weft r b.joint Negative s.negative t) (side_on Positive s.positive) (side_on Negative s.negative)

      due_on : (due : Bool) (s : Strip) → Throughout OnArc (due_weft o r due s b.leg)
      unfolding due_weft
      due_on due s =
          let G = B.leg in
          let n = s.last.negative in
          let p = s.last.positive in
          given_all OnArc due (start_fan r.detail (start_cap_of o b.leg) n p (negated_of t))
          (λ e. start_fan_lem r.detail (start_cap_of o b.leg) (start_sited o S b.leg G.from G.to G.edge) (unfold start_cap_of cap_of data_of in G.start) (negated_of t) (reversed t T) n p)

      end_on : (s : Section) → Throughout OnArc (end_weft r b s)
      unfolding end_weft
      end_on s =
          given_all OnArc (b.end && r.caps) (end_fan r.detail b.joint s.negative s.positive t)
          (λ e. end_fan_lem r.detail b.joint (B.ends (first_true b.end r.caps e)) at t T s.negative s.positive)

      bend_on : (s : Strip) (due : Bool) → Throughout OnArc (bend_weft o r s due b)
      unfolding bend_weft
      bend_on s due =
          let before = before_of (next_of s) b.joint in
          let own = faces (between before (after_of (next_of s) b.joint)) in
          let behind = then (arcs_weft r b before) (end_weft r b before) in
          then_all OnArc (faces (edge_faces s before)) (then (due_weft o r due s b.leg) (then own behind)) (λ i. tt)
          (then_all OnArc (due_weft o r due s b.leg) (then own behind) (due_on due s)
          (then_all OnArc own behind (λ i. tt) (then_all OnArc (arcs_weft r b before) (end_weft r b before) (arcs_on before) (end_on before))))

    -- ---- what a run's joints do
    from_on_lem : (s : Strip) (due : Bool) (m : ℕ) (bs : List Bend) → Course o S L m bs → Throughout OnArc (woven_from o r s due bs)
    unfolding woven_from
    from_on_lem s due m [] c = λ i. tt
    from_on_lem s due m (b ∷ bs) c = then_all OnArc (bend_weft o r s due b) (woven_from o r (step_of s b.joint) false bs) (bend_on b m c.0 s due) (from_on_lem (step_of s b.joint) false c.0.at.units bs c.1)

    pub woven_on : (closed : Bool) (base : VertexId) (ks : List Endpoint) → Course o S L 0 (standing o S L closed ks) → Throughout OnArc (woven_of closed o r base ks)
    unfolding woven_of
    woven_on closed base [] c i = tt
    woven_on closed base (p0 ∷ []) c i = tt
    woven_on false base (p0 ∷ p1 ∷ ps) c i = from_on_lem (step_of (start_of base) (start_cap_of o (first_leg_of h p0 p1))) r.caps c.0.at.units (bends_of false o (p0 ∷ p1 ∷ ps)) c.1 i
    woven_on true base (p0 ∷ p1 ∷ ps) c i =
        let bs = bends_of true o (p0 ∷ p1 ∷ ps) in
        let s = steps_of (start_of base) (joints_in bs) in
        then_all OnArc (woven_from o r (start_of base) false bs) (faces (between s.last s.first)) (from_on_lem (start_of base) false 0 bs c) (λ j. tt) i
