-- Drawing a dash. The plan: a dash of two kept points or more by woven's laws of a run, with arcs or without; a dash from its first point; in the parts of the lists
-- that it is lent; then the dashes one behind the other (`Drawing`). Assumes nothing.
use Prim.Native.Nat.{ℕ, ◌+◌, ◌-◌, ◌*◌, ◌<◌}
use mathlib.Core.Path.{◌≡◌, sym, ap, ◌∙◌, subst}
use mathlib.Core.Bool.{false, ◌||◌, cond}
use mathlib.Core.List.{List, [], ◌∷◌, append-nil, append_assoc}
use native.Mathlib.Omega.{arith}
use borrow.Rule.Slice.PartMut.{mid_of, put_mid}
use lib.Ieee.{Float}
use Rattle.std.specs.Prelude.{Option, Some, None, MatchOption, ⊤}
use lib.ListN.{length}
use Rattle.endpoint.specs.Endpoint.{id_limit, vertex_after}
use Rattle.endpoint.specs.declared.Endpoint.{Endpoint}
use Rattle.endpoint.specs.declared.VertexId.{VertexId}
use Rattle.lists.specs.All.{All}
use Rattle.pieces.specs.Piece.{Piece, none, joined, from, next_vertex, anew, Lists, lent, Fits, Passes}
use Rattle.pieces.specs.declared.Place.{Place}
use Rattle.pieces.proofs.Pieces.{joined_none, puts_none, puts_both, fits_front, fits_back, reached, parts_fit, parts_put}
use Rattle.options.specs.declared.Stroke.{Stroke}
use Rattle.kept.specs.Kept.{kept_points}
use Rattle.joints.specs.Joint.{joints_of}
use Rattle.strip.specs.Strip.{start_of, piece_of}
use Rattle.strip.proofs.Pending.{puts_piece}
use Rattle.strip.proofs.Runs.{triangles_are}
use Rattle.along.specs.declared.Pass.{Pass}
use Rattle.fans.specs.Weft.{WeftPasses}
use Rattle.fans.specs.declared.Round.{Round}
use Rattle.woven.specs.Woven.{woven_of, round_piece, over_strip}
use Rattle.woven.proofs.Runs.{drawn}
use Rattle.plait.proofs.Rounds.{round_none}
use Rattle.dashes.specs.Dashes.{dashes_from}
use Rattle.feed.specs.Feed.{WellNumbered, comes}
use Rattle.feed.specs.Trail.{dash_points, trail_behind, trail_dashes, Follows, TrailFits, DashBegins, Begins}
use Rattle.feed.specs.declared.trail.Trail.{Trail}
use Rattle.feed.proofs.Trailing.{dashes_split, trail_counted}
use Rattle.dashed.proofs.Following.{fits_numbered}
use Rattle.dashed.specs.Dashed.{dash_piece, dashes_piece}
use Rattle.dashed.specs.Passes.{trail_kept, dash_kept, DashFits, Strips, Draws, next_piece}
use Rattle.dashed.specs.declared.Dash.{Dash}
use Rattle.dashed.specs.declared.Drawn.{Drawn}
use Rattle.dashed.specs.declared.strips.Stripped.{Stripped}

-- ---- pieces
joined_assoc : (x y z : Piece) → joined (joined x y) z ≡ joined x (joined y z)
joined_assoc x y z = rw (append_assoc x.vertices y.vertices z.vertices, append_assoc x.triangles y.triangles z.triangles)

-- ---- a dash of two kept points or more; without arcs it is its strip
plain : (o : Stroke) (r : Round) (base : VertexId) (a b : Endpoint) (qs : List Endpoint) → (r.joins || r.caps) ≡ false → round_piece false o r base (a ∷ b ∷ qs) ≡ piece_of (start_of base) (joints_of false o (a ∷ b ∷ qs))
plain o r base a b qs h =
    let js = joints_of false o (a ∷ b ∷ qs) in
    round_none false o r base a b qs h ∙ rw (triangles_are false base js, append-nil (piece_of (start_of base) js).triangles)

module _ (pass : Pass) (r : Round) (p : List Float) (first : ℕ) (ds : List Float) where
  abbrev o : Stroke
  o = pass.stroke

  module _ (d : Dash) (f : DashFits o.near p first ds d) {base : VertexId} {l l1 : Lists} {s : Stripped}
      (e : Strips pass p first ds d.trail (joints_of false o (dash_kept o.near p first ds d)) (start_of base) l l1 s) where
    abbrev kept : List Endpoint
    kept = dash_kept o.near p first ds d

    pub line_plain : (r.joins || r.caps) ≡ false → Draws pass p first ds d.trail (from base) (round_piece false o r base kept) l l1 (record { place = s.strip.place; feed = s.feed })
    line_plain h = record { puts = rw (plain o r base _ _ _ h) (puts_piece e.strip); leaves = e.leaves }

    pub line_round : Fits pass.write (from base) (round_piece false o r base kept) l → {l2 : Lists} {k : Place}
        → WeftPasses pass.write (over_strip base s.strip.place.vertices) (woven_of false o r base kept) l1 l2 k
        → Draws pass p first ds d.trail (from base) (round_piece false o r base kept) l l2 (record { place = k; feed = s.feed })
    line_round h g = record { puts = drawn false o r base kept h (fits_numbered f) e.strip g; leaves = e.leaves }

  -- ---- a dash from its first point
  module _ (t : Trail) (w : TrailFits o.near p first ds t) where
    module _ (q : Endpoint) (u : Trail) (e : Follows o.near p first ds t (Some q) u) where
      kept_is : trail_kept o.near p first ds t ≡ dash_kept o.near p first ds (record { from = t.last; trail = u })
      kept_is = rw (e.points, e.last)

      pub dash_fits : DashFits o.near p first ds (record { from = t.last; trail = u })
      dash_fits = record { feed = e.fits; numbered = subst (All WellNumbered) kept_is (trail_counted o.near p first ds t w) }

      pub piece_is : (base : VertexId) → dash_piece o r base (trail_kept o.near p first ds t) ≡ round_piece false o r base (dash_kept o.near p first ds (record { from = t.last; trail = u }))
      unfolding dash_piece
      piece_is base = rw kept_is

      pub dash_draws : {base : VertexId} {l l1 : Lists} {d : Drawn}
          → Draws pass p first ds u (from base) (round_piece false o r base (dash_kept o.near p first ds (record { from = t.last; trail = u }))) l l1 d
          → Draws pass p first ds t (from base) (dash_piece o r base (trail_kept o.near p first ds t)) l l1 d
      dash_draws {base} g = record { puts = rw (piece_is base) g.puts; leaves = record { behind = g.leaves.behind ∙ sym e.behind; fits = g.leaves.fits } }

    pub dot_draws : (u : Trail) → Follows o.near p first ds t None u → (base : VertexId) (l : Lists)
        → Draws pass p first ds t (from base) (dash_piece o r base (trail_kept o.near p first ds t)) l l (record { place = from base; feed = u.feed })
    unfolding dash_piece
    dot_draws u e base l = record { puts = rw e.points puts_none; leaves = record { behind = sym e.behind; fits = e.fits } }

  -- ---- in the parts of the lists that begin at a, b and c, whose first vertex has the number `vertex`
  module _ (t : Trail) (k : Place) {v : List Float} {src tri : List ℕ} {a b c : ℕ} {vertex : VertexId} (ea : a ≡ cond pass.write (5 * k.vertices) 0) (eb : b ≡ cond pass.write k.vertices 0)
      (ec : c ≡ cond pass.write (3 * k.triangles) 0) (ev : vertex ≡ vertex_after k.base k.vertices) (h : Fits pass.write k (next_piece pass r p first ds t k) (lent v src tri)) where
    abbrev parts : Lists
    parts = lent (mid_of a (length v - a) v) (mid_of b (length src - b) src) (mid_of c (length tri - c) tri)

    pub part_fits : Fits pass.write (from vertex) (dash_piece o r vertex (trail_kept o.near p first ds t)) parts
    part_fits = rw (ea, eb, ec, ev) (parts_fit k (next_piece pass r p first ds t k) v src tri pass.write h)

    module _ {v1 : List Float} {src1 tri1 : List ℕ} {q : Drawn} (e : Draws pass p first ds t (from vertex) (dash_piece o r vertex (trail_kept o.near p first ds t)) parts (lent v1 src1 tri1) q) where
      puts : Passes pass.write (anew k) (next_piece pass r p first ds t k) parts (lent v1 src1 tri1) q.place
      puts = rw ev at e.puts

      pub part_few : (next_vertex k + q.place.vertices < id_limit) × (k.triangles + q.place.triangles < id_limit)
      part_few = rw puts.place (omega (arith, h.numbers), omega (arith, h.faces))

      pub part_draws : Draws pass p first ds t k (next_piece pass r p first ds t k) (lent v src tri) (lent (put_mid a (length v - a) v v1) (put_mid b (length src - b) src src1) (put_mid c (length tri - c) tri tri1))
          (record { place = reached k (next_piece pass r p first ds t k) v src tri q.place; feed = q.feed })
      part_draws = record { puts = rw (ea, eb, ec) (parts_put k (next_piece pass r p first ds t k) v src tri pass.write h v1 src1 tri1 q.place (rw (ea, eb, ec) at puts)); leaves = e.leaves }

  -- ---- the dashes one behind the other: of the whole, at the place k the dashes of the trail t are to come
  pub record Drawing (k0 : Place) (whole : Piece) (l0 : Lists) (k : Place) (t : Option Trail) (l : Lists) : Type 0 where
    pub done : Piece
    pub split : whole ≡ joined done (dashes_piece o r (anew k).base (trail_dashes o.near p first ds t))
    pub puts : Passes pass.write k0 done l0 l k
    pub fits : MatchOption t ⊤ (DashBegins o.near p first ds)

  pub drawing_none : (base : VertexId) (l : Lists) (t : Option Trail) (all : List (List Endpoint)) → all ≡ trail_dashes o.near p first ds t → MatchOption t ⊤ (DashBegins o.near p first ds)
      → Drawing (from base) (dashes_piece o r base all) l (from base) t l
  drawing_none base l t all e f =
      let z : base.0 + 0 ≡ base.0 = omega arith in
      record { done = none; split = rw (e, z); puts = puts_none; fits = f }

  module _ {k0 : Place} {whole : Piece} {l0 : Lists} {k : Place} {l : Lists} where
    module _ (t : Trail) (s : Drawing k0 whole l0 k (Some t) l) where
      abbrev next : Piece
      next = next_piece pass r p first ds t k

      abbrev rest : Piece
      rest = dashes_piece o r (vertex_after (anew k).base (length next.vertices)) (dashes_from false [] (trail_behind o.near p first ds t))

      dashes_are : trail_dashes o.near p first ds (Some t) ≡ (t.last ∷ dash_points (comes o.near p first ds t.feed)) ∷ dashes_from false [] (trail_behind o.near p first ds t)
      dashes_are = rw s.fits.on (dashes_split t.last (comes o.near p first ds t.feed))

      first_is : dashes_piece o r (anew k).base (trail_dashes o.near p first ds (Some t)) ≡ joined next rest
      unfolding dashes_piece kept_points
      first_is = rw (dashes_are, s.fits.on)

      split_on : whole ≡ joined s.done (joined next rest)
      split_on = s.split ∙ ap (joined s.done) first_is

      pub drawing_fits : Fits pass.write k0 whole l0 → Fits pass.write k next l
      drawing_fits h = fits_front next rest (fits_back s.done (joined next rest) (rw split_on at h) s.puts)

      module _ {l1 : Lists} {q : Drawn} (e : Draws pass p first ds t k next l l1 q) (u : Option Trail) (g : Begins o.near p first ds q.feed u) where
        behind_are : dashes_from false [] (trail_behind o.near p first ds t) ≡ trail_dashes o.near p first ds u
        behind_are = ap (dashes_from false []) (sym e.leaves.behind) ∙ g.dashes

        pub fewer : length (trail_dashes o.near p first ds u) < length (trail_dashes o.near p first ds (Some t))
        fewer = rw (dashes_are, behind_are) (omega arith)

        pub drawing_turn : Drawing k0 whole l0 q.place u l1
        drawing_turn = record {
          done = joined s.done next;
          split = split_on ∙ sym (joined_assoc s.done next rest) ∙ rw (behind_are, e.puts.place, number);
          puts = puts_both s.puts e.puts;
          fits = g.fits;
        }
          where
            number : k.base.0 + (k.vertices + length next.vertices) ≡ k.base.0 + k.vertices + length next.vertices
            number = omega arith

    pub drawing_all : Drawing k0 whole l0 k None l → Passes pass.write k0 whole l0 l k
    unfolding dashes_piece
    drawing_all s = rw (s.split, joined_none s.done) s.puts
