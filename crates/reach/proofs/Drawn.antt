-- The vertices of a run, by what it draws: a strip along its joints, with arcs behind it or without, or the empty cap, square or round. Assumes nothing.
use mathlib.Core.Path.{◌≡◌, refl, sym, subst}
use Prim.Native.Nat.{ℕ, ◌+◌, ◌<◌}
use mathlib.Core.Bool.{Bool, true, false, cond, true≢false}
use mathlib.Core.List.{List, [], ◌∷◌, ◌++◌, append-nil}
use native.Mathlib.Omega.{arith}
use lib.Dec.{lit≤}
use lib.Ieee.{Float}
use lib.ListN.{length}
use Rattle.plane.specs.F32.{f32}
use Rattle.plane.specs.Vector.{point}
use Rattle.endpoint.specs.declared.Endpoint.{Endpoint}
use Rattle.endpoint.specs.declared.EndpointData.{EndpointData}
use Rattle.endpoint.specs.declared.LineJoin.{LineJoin}
use Rattle.endpoint.specs.declared.LineJoin.TheVariants as joins
use Rattle.endpoint.specs.declared.Side.{Side}
use Rattle.endpoint.specs.declared.VertexId.{VertexId}
use Rattle.join.specs.Side.{is_clip}
use Rattle.joints.specs.Joint.{joints_of}
use Rattle.kept.specs.Kept.{kept_points}
use Rattle.kept.proofs.Keeping.{kept_all, kept_spaced}
use Rattle.kept.proofs.Lengths.{kept_few}
use Rattle.lists.specs.All.{All}
use Rattle.lists.proofs.All.{all_append, all_front, all_back}
use Rattle.options.specs.Options.{rounds_joins, rounds_caps, is_round, level_of}
use Rattle.options.specs.declared.Stroke.{Stroke}
use Rattle.pieces.specs.Piece.{Vertex}
use Rattle.run.specs.Run.{nothing, empty_cap, along, round_cap, round_along, draws_cap, shape_of_kept, shape_of, round_of, zeroth, shape_vertices}
use Rattle.strip.specs.Joint.{vertex_count, vertices_of}
use Rattle.strip.proofs.Joints.{length_vertices}
use Rattle.fans.specs.declared.Round.{Round}
use Rattle.fans.specs.Weft.{then}
use Rattle.round_cap.specs.Cap.{corners_from, pair_of, corner_vertices, rim_weft, round_cap_piece}
use Rattle.round_cap.specs.declared.Corners.{Corners}
use Rattle.round_cap.proofs.Rim.{Rim, cap_rim}
use Rattle.woven.specs.Woven.{woven_of, round_piece}
use Rattle.vertices.specs.Cap.{cap_vertex_of, cap_pair_of, cap_vertices_of}
use Rattle.vertices.specs.Vertex.{vertex_of}
use Rattle.vertices.proofs.Laws.{length_cap}
use Rattle.rounding.proofs.Results.{Bounded, bounded_neg}
use Rattle.stays.specs.Stays.{Inside}
use Rattle.far.proofs.Ranges.{Limit}
use Rattle.far.proofs.Edge.{near_mutual}
use Rattle.reach.specs.Reach.{base_count}
use Rattle.reach.proofs.Widths.{Wide}
use Rattle.reach.proofs.Beside.{looser}
use Rattle.reach.proofs.Joints.{Held, unity, vertex_held}
use Rattle.reach.proofs.Advancements.{none_yet, From, here, Rising, level, rising_from}
use Rattle.reach.proofs.Course.{point_limit, Unclipped, Course, standing, joints_are, joints_course, course_held, course_rising}
use Rattle.reach.proofs.Arcs.{OnArc, woven_on}
use Rattle.reach.proofs.Rims.{arc_held, arc_from}

all_map : {A : Type 0} (P Q : A → Type 0) → ((x : A) → P x → Q x) → (xs : List A) → All P xs → All Q xs
all_map P Q f [] a = tt
all_map P Q f (x ∷ xs) a = (f x a.0, all_map P Q f xs a.1)

module _ (o : Stroke) (S : Wide o) (L : Limit o.near) where
  abbrev h : Float
  h = o.half_width

  -- ---- the empty cap: its directions are its normals
  corner : (p : Endpoint) → Inside p → (side : Side) (x y : Float) → Bounded x 1 → Bounded y 1 → Held (cap_vertex_of p h (f32 0) side x y)
  unfolding cap_vertex_of
  corner p P side x y X Y = vertex_held S.half p P (point x y) (f32 0) _ (looser 1 227 (lit≤ tt) X) (looser 1 227 (lit≤ tt) Y)

  cap_held : (p : Endpoint) → Inside p → All Held (cap_vertices_of p h (f32 0))
  unfolding cap_vertices_of cap_pair_of
  cap_held p P =
      let m = bounded_neg unity in
      (corner p P _ _ _ unity unity, (corner p P _ _ _ unity m, (corner p P _ _ _ m m, (corner p P _ _ _ m (bounded_neg m), tt))))

  cap_level : (p : Endpoint) → All (λ (v : Vertex). v.advancement ≡ f32 0) (cap_vertices_of p h (f32 0))
  unfolding cap_vertices_of cap_pair_of cap_vertex_of vertex_of
  cap_level p = (refl, (refl, (refl, (refl, tt))))

  -- "Its advancement is 0"
  level_rising : (vs : List Vertex) → All (λ (v : Vertex). v.advancement ≡ f32 0) vs → Rising 0 vs
  level_rising vs e = subst (Rising 0) (append-nil vs) (level (f32 0) 0 vs [] e (here none_yet (lit≤ tt)) tt)

  -- ---- what a run draws: n vertices of its own, behind them its arcs'
  pub record Drawn (n : ℕ) (vs : List Vertex) : Type 0 where
    pub strip : List Vertex
    pub arcs : List Vertex
    pub is : vs ≡ strip ++ arcs
    pub count : length strip ≡ n
    pub held : Unclipped o S L → All Held strip
    pub rising : Rising 0 strip
    pub on : All (OnArc o S) arcs

  without : (n : ℕ) (vs : List Vertex) → length vs ≡ n → (Unclipped o S L → All Held vs) → Rising 0 vs → Drawn n vs
  without n vs e H R = record { strip = vs; arcs = []; is = sym (append-nil vs); count = e; held = H; rising = R; on = tt }

  -- a round empty cap: its corners, behind them its rim
  corners_level : (p : Endpoint) (q : Corners) → All (λ (v : Vertex). v.advancement ≡ f32 0) (corner_vertices p h q)
  unfolding corner_vertices pair_of cap_vertex_of vertex_of
  corners_level p q = (refl, (refl, (refl, (refl, tt))))

  rim_on : (p : Endpoint) → Inside p → (v : Vertex) → Rim p h v → OnArc o S v
  rim_on p P v R = record { centre = p; inside = P; normal = R.normal; unit = R.unit; advancement = f32 0; from = here none_yet (lit≤ tt); source = R.source; is = R.is }

  rim_drawn : (k : ℕ) (base : VertexId) (p : Endpoint) → Inside p → Drawn 4 (round_cap_piece k base p h).vertices
  unfolding then
  rim_drawn k base p P =
      let q = corners_from base in
      let vs = corner_vertices p h q in
      let ws = (rim_weft k p h q (base.0 + length vs)).vertices in
      let A = all_map (Rim p h) (OnArc o S) (rim_on p P) (vs ++ ws) (cap_rim p h k base) in
      record {
        strip = vs;
        arcs = ws;
        is = refl;
        count = unfold corner_vertices pair_of in refl;
        held = λ u. all_map (OnArc o S) Held (λ v B. arc_held o S B) vs (all_front (OnArc o S) vs ws A);
        rising = level_rising vs (corners_level p q);
        on = all_back (OnArc o S) vs ws A;
      }

  -- a run's joints, with what is woven in
  module _ (closed : Bool) (ks : List Endpoint) (c : Course o S L 0 (standing o S L closed ks)) where
    strip_held : Unclipped o S L → All Held (vertices_of (joints_of closed o ks))
    strip_held u = subst (λ (js : List EndpointData). All Held (vertices_of js)) (joints_are o S L closed ks) (course_held o S L 0 (standing o S L closed ks) c u)

    strip_rising : Rising 0 (vertices_of (joints_of closed o ks))
    strip_rising = subst (λ (js : List EndpointData). Rising 0 (vertices_of js)) (joints_are o S L closed ks) (course_rising o S L 0 (standing o S L closed ks) c)

    strip_drawn : Drawn (vertex_count (joints_of closed o ks)) (vertices_of (joints_of closed o ks))
    strip_drawn = let js = joints_of closed o ks in without (vertex_count js) (vertices_of js) (length_vertices js) strip_held strip_rising

    pub round_drawn : (r : Round) → (r.joins ≡ true → Unclipped o S L) → (base : VertexId) → Drawn (vertex_count (joints_of closed o ks)) (round_piece closed o r base ks).vertices
    round_drawn r u base =
        let js = joints_of closed o ks in
        let n = base.0 + vertex_count js in
        record {
          strip = vertices_of js;
          arcs = (woven_of closed o r base ks n).vertices;
          is = refl;
          count = length_vertices js;
          held = strip_held;
          rising = strip_rising;
          on = woven_on o S L r u closed base ks c n;
        }

  -- a Round join is not clipped
  round_unclipped : (round_of o).joins ≡ true → Unclipped o S L
  unfolding round_of
  round_unclipped = go o.line_join
    where
      go : (join : LineJoin) → rounds_joins join ≡ true → is_clip join ≡ false
      go joins.Miter e = refl
      go joins.MiterClip e = absurd (true≢false (sym e))
      go joins.Bevel e = refl
      go joins.Round e = refl

  kept_drawn : (closed lines : Bool) (ks : List Endpoint) → All Inside ks → Course o S L 0 (standing o S L closed ks)
      → let s = shape_of_kept o closed lines ks in Drawn (base_count s) (shape_vertices o s)
  unfolding shape_vertices
  kept_drawn closed lines [] i c = without 0 [] refl (λ u. tt) tt
  kept_drawn closed lines (p ∷ []) i c = go (draws_cap o.cap closed lines) (rounds_caps o.cap)
    where
      go : (t round : Bool) → let s = cond t (cond round (round_cap o p) (empty_cap p)) nothing in Drawn (base_count s) (shape_vertices o s)
      go true true = rim_drawn (level_of o) zeroth p i.0
      go true false = without 4 (cap_vertices_of p h (f32 0)) (length_cap p h (f32 0)) (λ u. cap_held p i.0) (level_rising (cap_vertices_of p h (f32 0)) (cap_level p))
      go false round = without 0 [] refl (λ u. tt) tt
  kept_drawn closed lines (p ∷ q ∷ ks) i c = go (is_round o)
    where
      go : (round : Bool) → let s = cond round (round_along closed o p q ks) (along (joints_of closed o (p ∷ q ∷ ks))) in Drawn (base_count s) (shape_vertices o s)
      go true = round_drawn closed (p ∷ q ∷ ks) c (round_of o) round_unclipped zeroth
      go false = strip_drawn closed (p ∷ q ∷ ks) c

  pub run_drawn : (closed : Bool) (ps : List Endpoint) → length ps < point_limit closed → All Inside ps → let s = shape_of o closed ps in Drawn (base_count s) (shape_vertices o s)
  unfolding shape_of
  run_drawn closed ps K i =
      let ks = kept_points o.near closed ps in
      let I = kept_all o.near Inside closed ps i in
      kept_drawn closed _ ks I (joints_course o S L closed ks (omega (arith, kept_few o.near closed ps)) I (kept_spaced o.near Inside (λ p q P Q. near_mutual P Q o.near) closed ps i))

  -- ---- of all its vertices
  module _ {n : ℕ} {vs : List Vertex} (D : Drawn n vs) where
    all_of : (P : Vertex → Type 0) → All P D.strip → ((v : Vertex) → OnArc o S v → P v) → All P vs
    all_of P s f = subst (All P) (sym D.is) (all_append P D.strip D.arcs s (all_map (OnArc o S) P f D.arcs D.on))

    pub all_held : Unclipped o S L → All Held vs
    all_held u = all_of Held (D.held u) (λ v A. arc_held o S A)

    pub all_from : All (λ (v : Vertex). From 0 v.advancement) vs
    all_from = all_of (λ (v : Vertex). From 0 v.advancement) (rising_from 0 D.strip D.rising) (λ v A. arc_from o S A)
