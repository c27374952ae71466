-- The joints of a run. One walk along its kept points gives each joint what its two legs have: the leg itself, the places of its sides' points, where no join is clipped, and the
-- advancement. What the strip's vertices are then follows joint by joint; the arcs' are in `Arcs`. Assumes nothing.
use mathlib.Core.Path.{◌≡◌, refl, sym, ap, subst}
use Prim.Native.Nat.{ℕ, ◌+◌, ◌≤◌, ◌<◌}
use mathlib.Core.Bool.{Bool, true, false, true≢false}
use mathlib.Core.List.{List, [], ◌∷◌, ◌++◌, append-nil}
use native.Mathlib.Omega.{arith}
use lib.Dec.{lit≤}
use lib.Ieee.{Float}
use lib.ListN.{length, length-append}
use Rattle.endpoint.specs.declared.Endpoint.{Endpoint}
use Rattle.endpoint.specs.declared.EndpointData.{EndpointData}
use Rattle.endpoint.specs.declared.Side.{Side}
use Rattle.endpoint.specs.declared.Side.TheVariants.{Positive, Negative}
use Rattle.endpoint.specs.declared.SidePoints.{SidePoints}
use Rattle.endpoint.specs.declared.SidePoints.TheVariants.{Single, Pair}
use Rattle.join.specs.Record.{side_positions_of}
use Rattle.join.specs.Side.{is_clip}
use Rattle.kept.specs.Kept.{near}
use Rattle.kept.proofs.Keeping.{Chain, Spaced}
use Rattle.joints.specs.Joint.{data_of, unworked_of, joint_of, cap_of, start_cap_of, end_cap_of, joints_of}
use Rattle.joints.specs.Leg.{leg_of, first_leg_of, next_leg_of}
use Rattle.joints.specs.declared.leg.Leg.{Leg}
use Rattle.lists.specs.All.{All}
use Rattle.lists.proofs.All.{all_append}
use Rattle.options.specs.declared.Stroke.{Stroke}
use Rattle.pieces.specs.Piece.{Vertex}
use Rattle.strip.specs.Joint.{joint_vertices_of, vertices_of}
use Rattle.bends.specs.Weave.{joints_in}
use Rattle.bends.specs.declared.Bend.{Bend}
use Rattle.weave.specs.Points.{bends_from, bends_of}
use Rattle.woven.proofs.Sizes.{joints_from_lem}
use Rattle.vertices.specs.Base.{base_vertex_of, side_vertices_of, base_vertices_of}
use Rattle.vertices.specs.Vertex.{vertex_of}
use Rattle.stays.specs.Stays.{Inside}
use Rattle.far.proofs.Ranges.{Limit}
use Rattle.reach.proofs.Widths.{Wide}
use Rattle.reach.proofs.Edges.{Edged, edged}
use Rattle.reach.proofs.Joints.{Held, Sited, joint_held, join_sited, start_sited, end_sited}
use Rattle.reach.proofs.Advancements.{Reckoned, zero_is, none_yet, one_leg, From, from_less, from_none, here, Rising, level}

joint_level : (j : EndpointData) → All (λ (v : Vertex). v.advancement ≡ j.advancement) (joint_vertices_of j)
unfolding joint_vertices_of
joint_level j = all_append (λ (v : Vertex). v.advancement ≡ j.advancement) (base_vertices_of j Positive) (base_vertices_of j Negative) (side Positive j.positive) (side Negative j.negative)
  where
    side : (s : Side) (ps : SidePoints) → All (λ (v : Vertex). v.advancement ≡ j.advancement) (side_vertices_of j s ps)
    side s (Single x y) = unfold side_vertices_of base_vertex_of vertex_of in (refl, tt)
    side s (Pair x0 y0 x1 y1) = unfold side_vertices_of base_vertex_of vertex_of in (refl, (refl, tt))

-- fewer points make no more than 65,536 legs: an open run has one leg less than points, and a closed one is walked on to its second point again
abbrev pub point_limit : Bool → ℕ
point_limit true = 65536
point_limit false = 65538

module _ (o : Stroke) (S : Wide o) (L : Limit o.near) where
  abbrev h : Float
  h = o.half_width

  abbrev pub Unclipped : Type 0
  Unclipped = is_clip o.line_join ≡ false

  -- a leg, with the advancement where it begins, and where it ends behind k legs
  pub record Walked (leg : Leg) (k : ℕ) : Type 0 where
    pub from : Inside leg.from
    pub to : Inside leg.to
    pub edge : Edged S.half leg.from leg.to from to leg.edge
    pub start : From 0 leg.start
    pub end : Reckoned leg.end k

  -- a joint at m units or more, with its leg, and those behind it
  pub record Stands (m : ℕ) (b : Bend) : Type 0 where
    pub at : From m b.joint.advancement
    pub legs : ℕ
    pub leg : Walked b.leg legs
    pub sited : Unclipped → Sited o S b.joint
    pub ends : b.end ≡ true → Sited o S b.joint

  abbrev pub Course : ℕ → List Bend → Type 0
  Course m [] = Unit {0}
  Course m (b ∷ bs) = (s : Stands m b) × Course s.at.units bs

  course_less : (m n : ℕ) (bs : List Bend) → m ≤ n → Course n bs → Course m bs
  course_less m n [] l c = tt
  course_less m n (b ∷ bs) l c = let s = c.0 in (record { at = from_less l s.at; legs = s.legs; leg = s.leg; sited = s.sited; ends = s.ends }, c.1)

  -- ---- the walk
  record Goes {a : Float} {k : ℕ} (A : Reckoned a k) (p q : Endpoint) (P : Inside p) (Q : Inside q) (leg : Leg) : Type 0 where
    pub edge : Edged S.half p q P Q leg.edge
    pub walked : Walked leg (k + 1)
    pub rises : A.size ≤ walked.end.size

  goes : {a : Float} {k : ℕ} (A : Reckoned a k) (p q : Endpoint) (P : Inside p) (Q : Inside q) → near o.near p q ≡ false → k + 1 ≤ 65536 → Goes A p q P Q (leg_of h a p q)
  unfolding leg_of
  goes A p q P Q e K =
      let E = edged S.half o.near L p q P Q e in
      let F = from_none (here A (omega arith)) in
      let R = one_leg A _ E.size E.length E.short K in
      record { edge = E; walked = record { from = P; to = Q; edge = E; start = F; end = R.next }; rises = R.rises }

  -- a join stands where its leg ends
  joint_at : {m : ℕ} (leg next : Leg) → From m leg.end → From m (joint_of o leg next).advancement
  unfolding joint_of side_positions_of unworked_of data_of
  joint_at leg next f = f

  from_leg : (closed : Bool) (leg : Leg) (k : ℕ) (ps : List Endpoint) (G : Walked leg k) → k + length ps ≤ 65536 → All Inside ps → Chain o.near leg.to ps → Course G.end.size (bends_from closed o leg ps)
  unfolding bends_from joint_at
  from_leg true leg k [] G K i c = tt
  from_leg false leg k [] G K i c =
      let J = end_sited o S leg G.from G.to G.edge in
      (record { at = unfold end_cap_of cap_of data_of in (here G.end (omega arith)); legs = k; leg = G; sited = λ u. J; ends = λ e. J }, tt)
  from_leg closed leg k (p ∷ ps) G K i c =
      let N : Goes G.end leg.to p G.to i.0 (next_leg_of h leg p) = unfold next_leg_of in goes G.end leg.to p G.to i.0 c.0 (omega arith) in
      let next = next_leg_of h leg p in (
        record {
          at = joint_at leg next (here G.end (omega arith));
          legs = k;
          leg = G;
          sited = λ u. join_sited o S leg G.from G.to G.edge next p i.0 N.edge u;
          ends = λ e. absurd (true≢false (sym e));
        },
        course_less G.end.size N.walked.end.size (bends_from closed o next ps) N.rises
            (from_leg closed next (k + 1) ps N.walked (omega arith) i.1 (unfold next_leg_of leg_of in c.1)),
      )

  -- with the second behind the first again
  again : (l : Endpoint) (xs : List Endpoint) (p0 p1 : Endpoint) → Chain o.near l (xs ++ (p0 ∷ [])) → near o.near p0 p1 ≡ false → Chain o.near l (xs ++ (p0 ∷ p1 ∷ []))
  again l [] p0 p1 c e = (c.0, (e, tt))
  again l (x ∷ xs) p0 p1 c e = (c.0, again x xs p0 p1 c.1 e)

  -- ---- a run's joints, the start cap of an open one with the first leg
  abbrev pub start_bend : Leg → Bend
  start_bend leg = record { joint = start_cap_of o leg; leg = leg; end = false }

  abbrev pub standing : Bool → List Endpoint → List Bend
  standing closed [] = []
  standing closed (p0 ∷ []) = []
  standing true (p0 ∷ p1 ∷ ps) = bends_of true o (p0 ∷ p1 ∷ ps)
  standing false (p0 ∷ p1 ∷ ps) = start_bend (first_leg_of h p0 p1) ∷ bends_of false o (p0 ∷ p1 ∷ ps)

  pub joints_are : (closed : Bool) (ks : List Endpoint) → joints_in (standing closed ks) ≡ joints_of closed o ks
  unfolding joints_of bends_of
  joints_are closed [] = refl
  joints_are closed (p0 ∷ []) = refl
  joints_are true (p0 ∷ p1 ∷ ps) = joints_from_lem true o (first_leg_of h p0 p1) (ps ++ p0 ∷ p1 ∷ [])
  joints_are false (p0 ∷ p1 ∷ ps) = let leg = first_leg_of h p0 p1 in ap (λ (js : List EndpointData). start_cap_of o leg ∷ js) (joints_from_lem false o leg ps)

  pub joints_course : (closed : Bool) (ks : List Endpoint) → length ks < point_limit closed → All Inside ks → Spaced o.near closed ks → Course 0 (standing closed ks)
  unfolding bends_of
  joints_course closed [] K i c = tt
  joints_course closed (p0 ∷ []) K i c = tt
  joints_course true (p0 ∷ p1 ∷ ps) K i c =
      let leg = first_leg_of h p0 p1 in
      let G = goes none_yet p0 p1 i.0 i.1.0 c.0 (lit≤ tt) in
      let n = length-append ps (p0 ∷ p1 ∷ []) in
      course_less 0 G.walked.end.size (bends_from true o leg (ps ++ p0 ∷ p1 ∷ [])) (omega arith)
      (from_leg true leg 1 (ps ++ p0 ∷ p1 ∷ []) G.walked (omega arith) (all_append Inside ps (p0 ∷ p1 ∷ []) i.1.1 (i.0, (i.1.0, tt))) (unfold leg_of in (again p1 ps p0 p1 c.1 c.0)))
  joints_course false (p0 ∷ p1 ∷ ps) K i c =
      let leg = first_leg_of h p0 p1 in
      let G = goes none_yet p0 p1 i.0 i.1.0 c.0 (lit≤ tt) in
      let W = G.walked in (
        record {
          at = record { units = 0; value = unfold start_cap_of cap_of data_of leg_of in zero_is; rises = omega arith; most = omega arith };
          legs = 1;
          leg = W;
          sited = λ u. start_sited o S leg W.from W.to W.edge;
          ends = λ e. absurd (true≢false (sym e));
        },
        course_less 0 W.end.size (bends_from false o leg ps) (omega arith)
            (from_leg false leg 1 ps W (omega arith) i.1.1 (unfold leg_of in (subst (λ (qs : List Endpoint). Chain o.near p1 qs) (append-nil ps) c.1))),
      )

  -- ---- the strip's vertices
  pub course_held : (m : ℕ) (bs : List Bend) → Course m bs → Unclipped → All Held (vertices_of (joints_in bs))
  unfolding vertices_of
  course_held m [] c u = tt
  course_held m (b ∷ bs) c u =
      all_append Held (joint_vertices_of b.joint) (vertices_of (joints_in bs)) (joint_held o S b.joint (c.0.sited u)) (course_held c.0.at.units bs c.1 u)

  pub course_rising : (m : ℕ) (bs : List Bend) → Course m bs → Rising m (vertices_of (joints_in bs))
  unfolding vertices_of
  course_rising m [] c = tt
  course_rising m (b ∷ bs) c =
      level b.joint.advancement m (joint_vertices_of b.joint) (vertices_of (joints_in bs)) (joint_level b.joint) c.0.at (course_rising c.0.at.units bs c.1)
