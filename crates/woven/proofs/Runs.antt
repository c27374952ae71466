-- A round run, open or closed: what its strip and what is woven into it need of the whole, and what they leave together. The plan: a run by its two passes (`Twice`);
-- the weaving in the parts that it is lent; the weaving of an open run; that of a closed one, which goes round at the end. Assumes nothing.
use Prim.Native.Nat.{ℕ, ◌+◌, ◌-◌, ◌*◌, ◌≤◌, ◌<◌}
use mathlib.Core.Path.{◌≡◌, refl, sym, ap, ◌∙◌}
use mathlib.Core.Bool.{Bool, true, false, cond, true≢false}
use mathlib.Core.List.{List, [], ◌∷◌, ◌++◌}
use native.Mathlib.Omega.{arith}
use borrow.Rule.Slice.PartMut.{mid_of, put_mid}
use lib.Ieee.{Float}
use lib.ListN.{length}
use Rattle.endpoint.specs.Endpoint.{id_limit, vertex_after}
use Rattle.endpoint.specs.declared.Endpoint.{Endpoint}
use Rattle.endpoint.specs.declared.EndpointData.{EndpointData}
use Rattle.endpoint.specs.declared.VertexId.{VertexId}
use Rattle.lists.specs.All.{All}
use Rattle.lists.specs.Over.{put_at}
use Rattle.lists.proofs.All.{all_append}
use Rattle.pieces.specs.Piece.{Piece, flat_t, behind, from, Lists, lent, Fits, Passes}
use Rattle.pieces.specs.declared.Place.{Place}
use Rattle.pieces.proofs.Pieces.{laid_triangles}
use Rattle.options.specs.declared.Stroke.{Stroke}
use Rattle.joints.specs.Joint.{start_cap_of, joints_of}
use Rattle.joints.specs.Leg.{leg_of, first_leg_of, next_leg_of}
use Rattle.joints.specs.declared.leg.Leg.{Leg}
use Rattle.joints.proofs.Numbered.{joints_numbered}
use Rattle.kept.specs.Looks.{run_from}
use Rattle.kept.proofs.Numbered.{Numbered, run_numbered}
use Rattle.along.specs.Strips.{Within}
use Rattle.strip.specs.Joint.{vertex_count}
use Rattle.strip.specs.Strip.{start_of, step_of, steps_of, piece_of, StripFits, StripPasses}
use Rattle.strip.specs.declared.Strip.{Strip}
use Rattle.strip.proofs.Joints.{length_vertices}
use Rattle.strip.proofs.Pending.{puts_piece, has_front, has_back}
use Rattle.strip.proofs.Steps.{sound_start, steps_place}
use Rattle.fans.specs.Weft.{faces, WeftFits, WeftPasses}
use Rattle.fans.specs.declared.Round.{Round}
use Rattle.fans.proofs.Wefts.{weft_front, weft_back, weft_both}
use Rattle.bends.specs.Bend.{FaceFits}
use Rattle.bends.specs.Weave.{joints_in, woven_from, WeaveFits, WeavePasses}
use Rattle.bends.specs.declared.Bend.{Bend}
use Rattle.bends.specs.declared.Weave.{Weave}
use Rattle.weave.specs.Points.{bends_from, bends_of}
use Rattle.weave.specs.Walk.{opened_of, closed_of}
use Rattle.woven.specs.Woven.{way_round, woven_of, round_piece, over_strip, WovenFits}
use Rattle.woven.proofs.Sizes.{joints_open, joints_closed, woven_more, closed_sized}
use Rattle.woven.proofs.Twice.{first_fits, second_fits, twice, parts_fit, parts_pass}

pub ids : (near : Float) {p : List Float} {at i : ℕ} → Within p at i → All Numbered (run_from near p at i)
ids near {p} {at} {i} h = run_numbered near p at i h.point h.few

-- what only counts may be lent anything
counts_any : {write : Bool} {s : Strip} {js : List EndpointData} {l : Lists} → StripFits write s js l → (l' : Lists) → StripFits false s js l'
counts_any h l' = record {
  sound = h.sound;
  numbered = h.numbered;
  fits = record { numbers = h.fits.numbers; faces = h.fits.faces; vertices = λ w. absurd (true≢false (sym w)); sources = λ w. absurd (true≢false (sym w)); triangles = λ w. absurd (true≢false (sym w)) };
}

legs_from_lem : (closed : Bool) (o : Stroke) (leg : Leg) (ps : List Endpoint) → leg.from.id.0 < id_limit → leg.to.id.0 < id_limit → All Numbered ps
    → All (λ (b : Bend). b.leg.from.id.0 < id_limit) (bends_from closed o leg ps)
unfolding bends_from next_leg_of leg_of
legs_from_lem true o leg [] f h g = tt
legs_from_lem false o leg [] f h g = (f, tt)
legs_from_lem closed o leg (p ∷ ps) f h g = (f, legs_from_lem closed o (next_leg_of o.half_width leg p) ps h g.0 g.1)

-- ---- a run of the kept points, by its two passes
module _ (closed : Bool) (o : Stroke) (r : Round) (base : VertexId) (kept : List Endpoint) where
  abbrev joints : List EndpointData
  joints = joints_of closed o kept

  abbrev strip : Piece
  strip = piece_of (start_of base) joints

  abbrev weft : ℕ → Piece
  weft = woven_of closed o r base kept

  abbrev inside : Piece
  inside = weft (base.0 + vertex_count joints)

  more : length strip.triangles ≤ length inside.triangles
  more = woven_more closed o r base kept (base.0 + vertex_count joints)

  module _ {write : Bool} {l : Lists} (h : Fits write (from base) (round_piece closed o r base kept) l) (g : All Numbered kept) where
    pub strip_fits : StripFits write (start_of base) joints l
    strip_fits = record { sound = sound_start base; numbered = joints_numbered closed o kept g; fits = first_fits base strip inside more h }

    module _ {l1 : Lists} {s : Strip} (e : StripPasses write joints (start_of base) l l1 s) where
      count : s.place.vertices ≡ vertex_count joints
      count = ap (λ (k : Place). k.vertices) (puts_piece e).place ∙ omega (arith, length_vertices joints)

      same : weft (base.0 + s.place.vertices) ≡ inside
      same = ap (λ (n : ℕ). weft (base.0 + n)) count

      pub arcs_fit : r.detail ≤ 6 → WovenFits write closed o r base kept (over_strip base s.place.vertices) l1
      arcs_fit d = record { shallow = d; strip = counts_any strip_fits l1; fits = rw same (second_fits base strip inside more (puts_piece e) h) }

      pub drawn : {l2 : Lists} {k : Place} → WeftPasses write (over_strip base s.place.vertices) weft l1 l2 k → Passes write (from base) (round_piece closed o r base kept) l l2 k
      drawn f = twice base strip inside more (puts_piece e) (rw same at f)

  -- ---- the weaving in the parts that it is lent
  module _ {write : Bool} {v : List Float} {s t : List ℕ} (n : ℕ) (h : WovenFits write closed o r base kept (over_strip base n) (lent v s t)) {arcs : VertexId} (ea : arcs ≡ vertex_after base n) where
    none : base.0 + n + 0 ≡ base.0 + n
    none = omega arith

    module _ (b : ℕ) (eb : b ≡ cond write n 0) where
      abbrev part : Lists
      part = lent (mid_of (5 * b) (length v - 5 * b) v) (mid_of b (length s - b) s) t

      pub part_fits : WovenFits write closed o r base kept (from arcs) part
      part_fits = record { shallow = h.shallow; strip = counts_any h.strip part; fits = rw (ea, none) (parts_fit base n (weft (base.0 + n)) v s t write h.fits b eb) }

      pub part_passes : (v2 : List Float) (s2 t2 : List ℕ) (k : Place) → WeftPasses write (from arcs) weft part (lent v2 s2 t2) k
          → WeftPasses write (over_strip base n) weft (lent v s t) (lent (put_mid (5 * b) (length v - 5 * b) v v2) (put_mid b (length s - b) s s2) t2) (record { base = base; vertices = n + k.vertices; triangles = k.triangles })
      part_passes v2 s2 t2 k f = parts_pass base n (weft (base.0 + n)) v s t write h.fits b eb v2 s2 t2 k (rw (ea, none) at f)

module _ (o : Stroke) (r : Round) (base : VertexId) (p0 p1 : Endpoint) (ps : List Endpoint) where
  abbrev kept : List Endpoint
  kept = p0 ∷ p1 ∷ ps

  -- ---- the weaving of an open run
  abbrev first : Leg
  first = first_leg_of o.half_width p0 p1

  legs_open : All Numbered kept → All (λ (b : Bend). b.leg.from.id.0 < id_limit) (bends_of false o kept)
  unfolding bends_of leg_of
  legs_open g = legs_from_lem false o first ps g.0 g.1.0 g.1.1

  module _ {arcs : VertexId} {write : Bool} {l : Lists} (h : WovenFits write false o r base kept (from arcs) l) where
    pub cap_fits : (l' : Lists) → StripFits false (start_of base) (start_cap_of o first ∷ []) l'
    cap_fits l' = has_front (start_cap_of o first ∷ []) (joints_in (bends_of false o kept)) (rw (joints_open o p0 p1 ps) at (counts_any h.strip l'))

    pub open_fits : All Numbered kept → WeaveFits write o r (opened_of o r first base arcs) (bends_of false o kept) l
    unfolding woven_of steps_of
    open_fits g = record {
      shallow = h.shallow;
      strip = has_back (start_cap_of o first ∷ []) (joints_in (bends_of false o kept)) (rw (joints_open o p0 p1 ps) at h.strip) {l1 = l} {s1 = step_of (start_of base) (start_cap_of o first)}
          (record { state = refl; lays = λ w. absurd (true≢false (sym w)) });
      legs = legs_open g;
      fits = h.fits;
    }

  pub open_passes : {arcs : VertexId} {write : Bool} {l l1 : Lists} {w : Weave} → WeavePasses write o r (bends_of false o kept) (opened_of o r first base arcs) l l1 w
      → WeftPasses write (from arcs) (woven_of false o r base kept) l l1 w.place
  unfolding woven_of
  open_passes e = e.weft

  -- ---- the weaving of a closed run
  abbrev bends : List Bend
  bends = bends_of true o kept

  abbrev end : Strip
  end = steps_of (start_of base) (joints_in bends)

  legs_closed : All Numbered kept → All (λ (b : Bend). b.leg.from.id.0 < id_limit) bends
  unfolding bends_of leg_of
  legs_closed g = legs_from_lem true o first (ps ++ p0 ∷ p1 ∷ []) g.0 g.1.0 (all_append Numbered ps (p0 ∷ p1 ∷ []) g.1.1 (g.0, (g.1.0, tt)))

  module _ {arcs : VertexId} {write : Bool} {l : Lists} (h : WovenFits write true o r base kept (from arcs) l) where
    pub closed_fits : All Numbered kept → WeaveFits write o r (closed_of base arcs) bends l
    unfolding woven_of
    closed_fits g = record {
      shallow = h.shallow;
      strip = rw (joints_closed o p0 p1 ps) at h.strip;
      legs = legs_closed g;
      fits = weft_front (woven_from o r (start_of base) false bends) (faces (way_round end)) h.fits;
    }

    module _ {v1 : List Float} {s1 t1 : List ℕ} {w : Weave} (e : WeavePasses write o r bends (closed_of base arcs) l (lent v1 s1 t1) w) where
      way_fits : WeftFits write w.place (faces (way_round w.strip)) (lent v1 s1 t1)
      unfolding woven_of
      way_fits = rw e.strip (weft_back (woven_from o r (start_of base) false bends) (faces (way_round end)) e.weft h.fits)

      pub way_room : write ≡ true → FaceFits w.place (way_round w.strip) t1
      way_room x = record { few = way_fits.faces; room = way_fits.triangles x }

      strip_count : w.strip.place.vertices ≡ vertex_count (joints_of true o kept)
      strip_count = rw (e.strip, joints_closed o p0 p1 ps) (ap (λ (k : Place). k.vertices) (steps_place (start_of base) (joints_in bends)) ∙ omega (arith, length_vertices (joints_in bends)))

      pub few_round : w.strip.place.vertices + w.place.vertices < 2 * id_limit
      few_round = omega (arith, strip_count, length_vertices (joints_of true o kept), h.strip.fits.numbers, way_fits.numbers)

      pub closed_passes : (t2 : List ℕ) → (write ≡ true → t2 ≡ put_at (3 * w.place.triangles) (flat_t (way_round w.strip)) t1)
          → WeftPasses write (from arcs) (woven_of true o r base kept) l (lent v1 s1 t2) (record { base = w.place.base; vertices = w.place.vertices; triangles = w.strip.place.vertices + w.place.vertices })
      unfolding woven_of
      closed_passes t2 g =
          let way : Piece = record { vertices = []; triangles = way_round end } in
          let b : WeftPasses write (from arcs) (woven_of true o r base kept) l (lent v1 s1 t2) (behind w.place way) =
          weft_both (woven_from o r (start_of base) false bends) (faces (way_round end)) e.weft (record { place = refl; lists = λ x. laid_triangles w.place (way_round end) v1 s1 t1 t2 (rw e.strip at (g x)) }) in
          let z = closed_sized o p0 p1 ps r base (arcs.0 + 0) in
          let m : w.strip.place.vertices + w.place.vertices ≡ w.place.triangles + length (way_round end) =
          omega (arith, strip_count, z, ap (λ (k : Place). k.vertices) b.place, ap (λ (k : Place). k.triangles) b.place) in
          let n : w.place.vertices + 0 ≡ w.place.vertices = omega arith in
          let q : ◌≡◌ {A = Place} (record { base = w.place.base; vertices = w.place.vertices; triangles = w.strip.place.vertices + w.place.vertices }) (behind w.place way) = rw (m, n) in
          record { place = q ∙ b.place; lists = b.lists }
