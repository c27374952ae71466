-- A run's pieces, from what the writers of its joints put there. The plan, in this order: a strip by its steps, and in a closed run the way round; one kept point,
-- with the empty cap or nothing; and which of these a run is, by the looks for its second and its last kept point. Assumes nothing.
use Prim.Native.Nat.{ℕ, ◌+◌, ◌-◌, ◌*◌, ◌/◌, ◌%◌, ◌^◌, ◌≤◌, ◌<◌}
use mathlib.Core.Path.{◌≡◌, refl, sym, ap, subst, ◌∙◌}
use mathlib.Core.Bool.{Bool, true, false, cond}
use mathlib.Core.List.{List, [], ◌∷◌, append-nil}
use native.Mathlib.Nat.{mul-le-mul_left, pow-le-pow_right, mod-eq_of_lt, lt_of_le_of_lt}
use native.Mathlib.Omega.{arith}
use lib.Dec.{ltb, lit<, lit≤}
use lib.Ieee.{Float}
use lib.ListN.{length, take}
use Rattle.plane.specs.F32.{f32}
use Rattle.endpoint.specs.Endpoint.{id_limit}
use Rattle.endpoint.specs.declared.Endpoint.{Endpoint}
use Rattle.endpoint.specs.declared.EndpointData.{EndpointData}
use Rattle.endpoint.specs.declared.VertexId.{VertexId}
use Rattle.vertices.specs.Cap.{cap_vertices_of, cap_triangles_of}
use Rattle.vertices.specs.Vertex.{triangle_of}
use Rattle.vertices.proofs.Laws.{length_cap}
use Rattle.lists.specs.All.{All}
use Rattle.lists.specs.Over.{over, put_at}
use Rattle.pieces.specs.Piece.{flat_v, flat_s, flat_t, Piece, joined, behind, from, Lists, lent, laid, Fits, Passes, Lays}
use Rattle.pieces.specs.declared.Place.{Place}
use Rattle.pieces.proofs.Pieces.{puts_both, fits_front, fits_back, laid_triangles, laid_start}
use Rattle.pieces.proofs.Pieces as pieces
use Rattle.options.specs.Options.{rounds_caps, is_round, level_of}
use Rattle.options.specs.declared.Stroke.{Stroke}
use Rattle.options.proofs.Levels.{level_few}
use Rattle.joints.proofs.Lengths.{joints_length}
use Rattle.joints.proofs.Numbered.{joints_numbered}
use Rattle.kept.specs.Kept.{kept_points}
use Rattle.joints.specs.Joint.{joints_of}
use Rattle.kept.specs.Points.{endpoints_of, endpoint_at}
use Rattle.kept.specs.Looks.{FirstFar, Ended, run_from}
use Rattle.kept.proofs.Indexed.{points_length}
use Rattle.kept.proofs.Numbered.{run_numbered}
use Rattle.kept.proofs.Looks.{kept_far, kept_alone, kept_ended}
use Rattle.along.specs.Strips.{Within}
use Rattle.along.specs.declared.Pass.{Pass}
use Rattle.strip.specs.Joint.{vertex_count, vertices_of}
use Rattle.strip.specs.Strip.{StripFits, start_of, steps_of, piece_of}
use Rattle.strip.specs.Strip as strip
use Rattle.strip.specs.Triangle.{triangles_of}
use Rattle.strip.specs.declared.Strip.{Strip}
use Rattle.strip.proofs.Facts.Counts.{closed_count}
use Rattle.strip.proofs.Joints.{length_vertices}
use Rattle.strip.proofs.Pending.{puts_piece}
use Rattle.strip.proofs.Runs.{triangles_are}
use Rattle.strip.proofs.Steps.{sound_start}
use Rattle.round_cap.proofs.Counts.{pow_two, cap_counts, cap_vertices}
use Rattle.arc.proofs.Triangles.{pow_some}
use Rattle.fans.specs.Weft.{faces}
use Rattle.fans.specs.declared.Round.{Round}
use Rattle.bends.specs.Bend.{FaceFits}
use Rattle.woven.specs.Woven.{way_round, round_piece}
use Rattle.woven.proofs.Runs.{ids, strip_fits}
use Rattle.plait.proofs.Numbering.{round_vertices}
use Rattle.plait.proofs.Rounds.{round_counts}
use Rattle.run.specs.Run.{Shape, nothing, empty_cap, along, round_cap, round_along, cap_shape, round_shape, strip_shape, round_of, round_cap_size, cap_size, cap_piece, zeroth, shape_count, shape_vertices, shape_triangles, shape_of_kept, shape_of, shape_piece, DrawFits, Draws}

-- ---- a strip is what its steps bring and, in a closed run, what comes on the way round
module _ (o : Stroke) (base : VertexId) (js : List EndpointData) where
  open_is : shape_piece o false base (along js) ≡ piece_of (start_of base) js
  unfolding shape_vertices shape_triangles
  open_is = rw (triangles_are false base js, append-nil)

  closed_is : shape_piece o true base (along js) ≡ joined (piece_of (start_of base) js) (faces (way_round (steps_of (start_of base) js)) 0)
  unfolding shape_vertices shape_triangles
  closed_is = rw (triangles_are true base js, append-nil (vertices_of js))

  module _ {write : Bool} {l : Lists} where
    pub open_has : All (λ (j : EndpointData). j.id.0 < id_limit) js → Fits write (from base) (shape_piece o false base (along js)) l → StripFits write (start_of base) js l
    open_has n h = record { sound = sound_start base; numbered = n; fits = rw open_is at h }

    pub closed_has : All (λ (j : EndpointData). j.id.0 < id_limit) js → Fits write (from base) (shape_piece o true base (along js)) l → StripFits write (start_of base) js l
    closed_has n h = record { sound = sound_start base; numbered = n; fits = fits_front (piece_of (start_of base) js) (faces (way_round (steps_of (start_of base) js)) 0) (rw closed_is at h) }

    pub open_drawn : {l' : Lists} {s : Strip} → strip.StripPasses write js (start_of base) l l' s → Passes write (from base) (shape_piece o false base (along js)) l l' s.place
    open_drawn e = rw open_is (puts_piece e)

pub within_numbered : (closed : Bool) (o : Stroke) {p : List Float} {first i : ℕ} → Within p first i → All (λ (j : EndpointData). j.id.0 < id_limit) (joints_of closed o (run_from o.near p first i))
within_numbered closed o {p} {first} {i} h = joints_numbered closed o (run_from o.near p first i) (run_numbered o.near p first i h.point h.few)

-- ---- round to the first section
-- a closed run has a joint to each of its points, two at least
all_named : (o : Stroke) (base : ℕ) (p q : Endpoint) (ks : List Endpoint) → length (triangles_of true base (joints_of true o (p ∷ q ∷ ks))) ≡ vertex_count (joints_of true o (p ∷ q ∷ ks))
all_named o base p q ks = go (joints_of true o (p ∷ q ∷ ks)) (omega (arith, joints_length true o p q ks))
  where
    go : (js : List EndpointData) → 2 ≤ length js → length (triangles_of true base js) ≡ vertex_count js
    go [] h = absurd (omega arith)
    go (j ∷ []) h = absurd (omega arith)
    go (j ∷ i ∷ js) h = closed_count base j i js

-- ---- a closed run, once round
module _ (o : Stroke) (p q : Endpoint) (ks : List Endpoint) where
  abbrev js : List EndpointData
  js = joints_of true o (p ∷ q ∷ ks)

  module _ {write : Bool} {base : VertexId} {l : Lists} {v1 : List Float} {s1 t1 : List ℕ} {s : Strip} (h : Fits write (from base) (shape_piece o true base (along js)) l) (e : strip.StripPasses write js (start_of base) l (lent v1 s1 t1) s) where
    is_round_lem : shape_piece o true base (along js) ≡ joined (piece_of (start_of base) js) (faces (way_round s) 0)
    is_round_lem = rw e.state (closed_is o base js)

    round_fits : Fits write s.place (faces (way_round s) 0) (lent v1 s1 t1)
    round_fits = fits_back (piece_of (start_of base) js) (faces (way_round s) 0) (rw is_round_lem at h) (puts_piece e)

    pub rounds : write ≡ true → FaceFits s.place (way_round s) t1
    rounds w = record { few = round_fits.faces; room = round_fits.triangles w }

    pub closed_drawn : (t2 : List ℕ) → (write ≡ true → t2 ≡ put_at (3 * s.place.triangles) (flat_t (way_round s)) t1)
        → Passes write (from base) (shape_piece o true base (along js)) l (lent v1 s1 t2) (record { base = s.place.base; vertices = s.place.vertices; triangles = s.place.vertices })
    unfolding shape_vertices shape_triangles
    closed_drawn t2 et =
        let b : Passes write (from base) (joined (piece_of (start_of base) js) (faces (way_round s) 0)) l (lent v1 s1 t2) (behind s.place (faces (way_round s) 0)) =
        puts_both (puts_piece e) (record { place = refl; lists = λ w. laid_triangles s.place (way_round s) v1 s1 t1 t2 (et w) }) in
        let z = (puts_piece e).place in
        let m : 0 + length (vertices_of js) ≡ 0 + length (triangles_of true base.0 js) = omega (arith, length_vertices js, all_named o base.0 p q ks) in
        record { place = rw (z, m); lists = λ w. b.lists w ∙ ap (λ (x : Piece). laid (from base) x l) (sym is_round_lem) }

-- ---- a round run, and the round empty cap: their first number plays no part in the vertices
module _ (o : Stroke) (base : VertexId) where
  pub round_is : (closed : Bool) (p q : Endpoint) (ks : List Endpoint) → shape_piece o closed base (round_along closed o p q ks) ≡ round_piece closed o (round_of o) base (p ∷ q ∷ ks)
  unfolding shape_vertices shape_triangles
  round_is closed p q ks = rw (round_vertices closed o (round_of o) (p ∷ q ∷ ks) zeroth base)

  round_cap_is : (closed : Bool) (p : Endpoint) → shape_piece o closed base (round_cap o p) ≡ cap_piece o base p
  unfolding shape_vertices shape_triangles
  round_cap_is closed p = rw (cap_vertices (level_of o) p o.half_width zeroth base)

-- ---- how many
pub length_shape : (o : Stroke) (s : Shape) → length (shape_vertices o s) ≡ shape_count s
unfolding shape_vertices shape_count
length_shape o nothing = refl
length_shape o (empty_cap p) = length_cap p o.half_width (f32 0)
length_shape o (along js) = length_vertices js
length_shape o (round_cap s p) = (cap_counts (level_of s) p s.half_width zeroth).0
length_shape o (round_along closed s p q ks) = (round_counts closed s (round_of s) zeroth p q ks).vertices

-- ---- one kept point
pub nothing_drawn : (o : Stroke) (closed : Bool) (base : VertexId) {write : Bool} {l : Lists} → Passes write (from base) (shape_piece o closed base nothing) l l (from base)
unfolding shape_vertices shape_triangles
nothing_drawn o closed base = pieces.puts_none

-- "2^(k+2) vertices", as they are counted
pub cap_shifted : (o : Stroke) → 4 * 2 ^ level_of o % 2 ^ 64 ≡ round_cap_size o
cap_shifted o =
    let k = level_of o in
    let few : 2 ^ k ≤ 64 = pow-le-pow_right (lit≤ tt) (level_few o) in
    mod-eq_of_lt (lt_of_le_of_lt (mul-le-mul_left 4 few) (lit< tt)) ∙ sym (pow_two k)

pub cap_some : (o : Stroke) → 2 ≤ cap_size o
cap_some o = go (rounds_caps o.cap)
  where
    go : (round : Bool) → 2 ≤ cond round (round_cap_size o) 4
    go true = omega (arith, pow_two (level_of o), pow_some (level_of o))
    go false = omega arith

-- a round one is laid by its piece
module _ (o : Stroke) (base : VertexId) (p : Endpoint) (round : rounds_caps o.cap ≡ true) where
  round_cap_piece_lem : shape_piece o false base (cap_shape o p) ≡ cap_piece o base p
  round_cap_piece_lem = rw round (round_cap_is o base false p)

  pub round_cap_fits : {l : Lists} → Fits true (from base) (shape_piece o false base (cap_shape o p)) l → Fits true (from base) (cap_piece o base p) l
  round_cap_fits h = rw round_cap_piece_lem at h

  pub round_cap_lays : (l l' : Lists) → Lays true (from base) (cap_piece o base p) l l' → Lays true (from base) (shape_piece o false base (cap_shape o p)) l l'
  round_cap_lays l l' h = subst (λ (q : Piece). Lays true (from base) q l l') (sym round_cap_piece_lem) h

-- a square one
module _ (o : Stroke) (base : VertexId) (p : Endpoint) where
  pub square_room : {v : List Float} {s t : List ℕ} → Fits true (from base) (shape_piece o false base (empty_cap p)) (lent v s t) → ((20 ≤ length v) × (4 ≤ length s) × (6 ≤ length t)) × (base.0 + 4 ≤ id_limit)
  unfolding shape_vertices shape_triangles
  square_room h = let n = length_cap p o.half_width (f32 0) in ((omega (arith, h.vertices refl), omega (arith, h.sources refl), omega (arith, h.triangles refl)), omega (arith, h.numbers))

  pub square_laid : (v : List Float) (s t : List ℕ) {v' : List Float} {s' t' : List ℕ} → v' ≡ over (flat_v (cap_vertices_of p o.half_width (f32 0))) v → s' ≡ over (flat_s (cap_vertices_of p o.half_width (f32 0))) s
      → t' ≡ over (flat_t (cap_triangles_of base)) t → lent v' s' t' ≡ laid (from base) (shape_piece o false base (empty_cap p)) (lent v s t)
  unfolding shape_vertices shape_triangles cap_triangles_of triangle_of
  square_laid v s t ev es et = rw (ev, es, et) (sym (laid_start base (shape_piece o false base (empty_cap p)) (lent v s t)))

-- either: the same whether its run is closed or not, and its triangles are two fewer than its vertices
module _ (o : Stroke) (closed : Bool) (base : VertexId) (p : Endpoint) where
  either_closed : (round : Bool) → shape_piece o closed base (cond round (round_cap o p) (empty_cap p)) ≡ shape_piece o false base (cond round (round_cap o p) (empty_cap p))
  unfolding shape_triangles
  either_closed true = refl
  either_closed false = refl

  pub cap_fits : {write : Bool} {l : Lists} → Fits write (from base) (shape_piece o closed base (cap_shape o p)) l → Fits write (from base) (shape_piece o false base (cap_shape o p)) l
  cap_fits h = rw (either_closed (rounds_caps o.cap)) at h

  sized : (round : Bool) → let s = cond round (round_cap o p) (empty_cap p) in let n = cond round (round_cap_size o) 4 in
      behind (from base) (shape_piece o closed base s) ≡ record { base = base; vertices = n; triangles = n - 2 }
  unfolding shape_vertices shape_triangles
  sized true =
      let v = cap_counts (level_of o) p o.half_width zeroth in
      let t = cap_counts (level_of o) p o.half_width base in
      let m : length (cap_piece o base p).triangles ≡ round_cap_size o - 2 = omega (arith, t.1) in
      let z : 0 + round_cap_size o ≡ round_cap_size o = omega arith in
      let y : 0 + (round_cap_size o - 2) ≡ round_cap_size o - 2 = omega arith in
      rw (v.0, m, z, y)
  sized false = rw (length_cap p o.half_width (f32 0))

  pub cap_drawn : {write : Bool} {l l' : Lists} {n : ℕ} → n ≡ cap_size o → Lays write (from base) (shape_piece o false base (cap_shape o p)) l l'
      → Passes write (from base) (shape_piece o closed base (cap_shape o p)) l l' (record { base = base; vertices = n; triangles = n - 2 })
  cap_drawn {write} {l} {l'} e h =
      let same = either_closed (rounds_caps o.cap) in
      record { place = rw e (sym (sized (rounds_caps o.cap))); lists = subst (λ (q : Piece). Lays write (from base) q l l') (sym same) h }

-- ---- a run under another name
module _ (pass : Pass) {closed d : Bool} (c : closed ≡ d) {base : VertexId} {s r : Shape} (e : s ≡ r) {l : Lists} where
  pub fits_as : DrawFits pass closed base s l → DrawFits pass d base r l
  fits_as h = rw (c, e) at h

  pub draws_as : {l' : Lists} {k : Place} → Draws pass d base r l l' k → Draws pass closed base s l l' k
  draws_as h = rw (c, e) h

-- ---- a run of two kept points or more: round, or not
pub round_shallow : (o : Stroke) {r : Round} → r ≡ round_of o → r.detail ≤ 6
unfolding round_of
round_shallow o e = rw e (level_few o)

module _ (pass : Pass) (closed : Bool) {r : Round} (e : r ≡ round_of pass.stroke) (p q : Endpoint) (ks : List Endpoint) {base : VertexId} {l : Lists} where
  pub weave_fits : DrawFits pass closed base (round_shape closed pass.stroke (p ∷ q ∷ ks)) l → Fits pass.write (from base) (round_piece closed pass.stroke r base (p ∷ q ∷ ks)) l
  weave_fits h = rw (e, ← round_is pass.stroke base closed p q ks) h

  pub weave_draws : {l' : Lists} {k : Place} → Passes pass.write (from base) (round_piece closed pass.stroke r base (p ∷ q ∷ ks)) l l' k → Draws pass closed base (round_shape closed pass.stroke (p ∷ q ∷ ks)) l l' k
  weave_draws h = rw (round_is pass.stroke base closed p q ks, ← e) h

-- what a run is, once both are known
module _ (pass : Pass) {closed d : Bool} (c : closed ≡ d) {round : Bool} (e : is_round pass.stroke ≡ round) (ks : List Endpoint) where
  abbrev shape : Shape
  shape = cond round (round_shape d pass.stroke ks) (along (joints_of d pass.stroke ks))

  pub shape_fits : {base : VertexId} {l : Lists} → DrawFits pass closed base (strip_shape closed pass.stroke ks) l → DrawFits pass d base shape l
  shape_fits h = rw (c, e) at h

  pub shape_draws : {base : VertexId} {l l' : Lists} {k : Place} → Draws pass d base shape l l' k → Draws pass closed base (strip_shape closed pass.stroke ks) l l' k
  shape_draws h = rw (c, e) h

-- its strip is what fits first, round or not
pub strip_needs : (pass : Pass) (closed : Bool) (base : VertexId) {p : List Float} {first i : ℕ} {l : Lists} → Within p first i
    → DrawFits pass closed base (strip_shape closed pass.stroke (run_from pass.stroke.near p first i)) l
    → StripFits pass.write (start_of base) (joints_of closed pass.stroke (run_from pass.stroke.near p first i)) l
strip_needs pass closed base {p} {first} {i} {l} w = go (is_round pass.stroke) closed
  where
    go : (round closed : Bool) → DrawFits pass closed base (cond round (round_shape closed pass.stroke (run_from pass.stroke.near p first i)) (along (joints_of closed pass.stroke (run_from pass.stroke.near p first i)))) l
        → StripFits pass.write (start_of base) (joints_of closed pass.stroke (run_from pass.stroke.near p first i)) l
    go true closed h = strip_fits closed pass.stroke (round_of pass.stroke) base (run_from pass.stroke.near p first i) (weave_fits pass closed refl _ _ _ h) (ids pass.stroke.near w)
    go false true h = closed_has pass.stroke base (joints_of true pass.stroke (run_from pass.stroke.near p first i)) (within_numbered true pass.stroke w) h
    go false false h = open_has pass.stroke base (joints_of false pass.stroke (run_from pass.stroke.near p first i)) (within_numbered false pass.stroke w) h

-- ---- the kept points of a run whose coordinates are p
module _ (o : Stroke) (lines : Bool) {p : List Float} {first i : ℕ} (h : 2 ≤ length p) (f : FirstFar o.near p first i) where
  pub alone_shape : (closed : Bool) → length p / 2 ≤ i → {q : Endpoint} → q ≡ endpoint_at p first 0 → shape_of_kept o closed lines (kept_points o.near false (endpoints_of first p)) ≡ shape_of_kept o closed lines (q ∷ [])
  alone_shape closed l e = rw e (ap (shape_of_kept o closed lines) (kept_alone o.near p first i h f l))

  pub far_shape : (closed : Bool) → i < length p / 2 → shape_of_kept o closed lines (kept_points o.near false (endpoints_of first p)) ≡ strip_shape closed o (run_from o.near p first i)
  far_shape closed l = ap (shape_of_kept o closed lines) (kept_far o.near p first i h f l)

-- ---- the whole run
pub no_points : (o : Stroke) (closed : Bool) (p : List Float) (first : ℕ) → length p < 2 → shape_of o closed (endpoints_of first p) ≡ nothing
unfolding shape_of endpoints_of kept_points
no_points o closed [] first h = refl
no_points o closed (x ∷ []) first h = refl
no_points o closed (x ∷ y ∷ p) first h = absurd (omega arith)

pub open_shape : (o : Stroke) {closed lines : Bool} (p : List Float) (first : ℕ) → closed ≡ false → lines ≡ ltb 1 (length p / 2)
    → shape_of o closed (endpoints_of first p) ≡ shape_of_kept o closed lines (kept_points o.near false (endpoints_of first p))
unfolding shape_of
open_shape o p first c e = rw (c, e, points_length p first)

pub closed_shape : (o : Stroke) {closed lines : Bool} {p : List Float} {first e : ℕ} → closed ≡ true → lines ≡ ltb 1 (length p / 2) → 2 ≤ length p → Ended o.near p first e
    → shape_of o closed (endpoints_of first p) ≡ shape_of_kept o closed lines (kept_points o.near false (endpoints_of first (take (2 * e) p)))
unfolding shape_of
closed_shape o {closed} {lines} {p} {first} {e} c l h f = rw (c, l, points_length p first, kept_ended o.near p first e h f)
