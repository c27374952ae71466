-- A run, cut or not. The plan: the looks for its kept points tell whether it is cut, and where its second kept point stands; cut it draws its dashes (`Lines`), else what it
-- draws as it stands. Assumes nothing.
use Prim.Native.Nat.{ℕ, ◌+◌, ◌*◌, ◌/◌, ◌≤◌, ◌<◌}
use mathlib.Core.Path.{◌≡◌, refl, sym, ◌∙◌}
use mathlib.Core.Bool.{Bool, true, false, ◌&&◌, true≢false}
use mathlib.Core.List.{List, [], ◌∷◌, append-nil}
use Rattle.std.specs.Prelude.{Some, None}
use native.Mathlib.Omega.{arith}
use borrow.Author.Tests.{ltb-true, lt-ltb}
use lib.Dec.{ltb}
use lib.Ieee.{Float}
use lib.ListN.{length, take}
use lib.Seq.{length-take-le}
use Rattle.endpoint.specs.Endpoint.{id_limit}
use Rattle.endpoint.specs.declared.Endpoint.{Endpoint}
use Rattle.endpoint.specs.declared.VertexId.{VertexId}
use Rattle.pieces.specs.Piece.{Piece, from, Lists, Fits, Passes}
use Rattle.pieces.specs.declared.Place.{Place}
use Rattle.options.specs.declared.Stroke.{Stroke}
use Rattle.path.specs.Runs.{Run}
use Rattle.kept.specs.Kept.{kept_points}
use Rattle.kept.specs.Looks.{FirstFar, Ended, run_from}
use Rattle.kept.specs.Points.{endpoints_of}
use Rattle.kept.proofs.Looks.{kept_far, kept_alone, kept_ended}
use Rattle.dashes.specs.Marks.{cut_limit}
use Rattle.cuts.specs.Cuts.{runs_cuts}
use Rattle.cuts.specs.Runs.{is_cut, cut_run, cut_runs}
use Rattle.dashed.specs.Dashed.{run_piece, run_cuts}
use Rattle.fans.specs.declared.Round.{Round}
use Rattle.along.specs.declared.Pass.{Pass}
use Rattle.run.specs.Run.{round_of, shape_vertices, shape_triangles, shape_piece, DrawFits, Draws}
use Rattle.run.proofs.Whole.{round_shallow}
use Rattle.runs.specs.Cut.{KeptTo, Cut, Seconds}
use Rattle.kept.specs.declared.points.Points.{Points}
use Rattle.kept.specs.declared.points.Kept.{Kept}
use Rattle.kept.specs.Held.{points_of, run_of}
use Rattle.runs.specs.Runs.{cut_of, CutsFew, drawn_of, mesh_vertices, mesh_triangles, mesh_piece}
use Rattle.runs.proofs.Lines.{two_kept, lines_piece_lem}

-- ---- the looks
module _ (limit : Float) (p : List Float) (first : ℕ) where
  pub kept_closed : (e : ℕ) → 2 ≤ length p → Ended limit p first e → KeptTo limit p first true (2 * e)
  kept_closed e h f = record { least = omega (arith, f.least); end = omega (arith, f.within); kept = kept_ended limit p first e h f }

  module _ (closed : Bool) (ds : List Float) where
    -- no dashes
    pub no_lengths : length ds ≡ 0 → Seconds limit p first closed ds None
    no_lengths h = record { cut = rw h; here = tt }

    pub no_points : length p < 2 → Seconds limit p first closed ds None
    unfolding kept_points endpoints_of
    no_points h = record { cut = go p h; here = tt }
      where
        none : (t : Bool) → false ≡ (t && false)
        none true = refl
        none false = refl

        go : (p : List Float) → length p < 2 → false ≡ is_cut ds (kept_points limit closed (endpoints_of first p))
        go [] h = none (ltb 0 (length ds))
        go (x ∷ []) h = none (ltb 0 (length ds))
        go (x ∷ y ∷ p) h = absurd (omega arith)

    module _ (to : ℕ) (some : 0 < length ds) (e : KeptTo limit p first closed to) where
      module _ (points : Points) (ec : points.coords.now ≡ take to p) (ef : points.first ≡ record { 0 = first }) where
        two : 2 ≤ length points.coords.now
        two = rw ec (let part = length-take-le to p e.end in omega (arith, part, e.least))

        kept_is : kept_points limit closed (endpoints_of first p) ≡ kept_points limit false (points_of points)
        kept_is = rw (ec, ef) e.kept

        pub second_none : (i : ℕ) → FirstFar limit points.coords.now points.first.0 i → length points.coords.now / 2 ≤ i → Seconds limit p first closed ds None
        second_none i f h =
            let alone = kept_alone limit points.coords.now points.first.0 i two f h in
            record { cut = rw (lt-ltb 0 (length ds) some, kept_is, alone); here = tt }

      pub second_here : (k : Kept) → k.points.coords.now ≡ take to p → k.points.first ≡ record { 0 = first } → FirstFar limit k.points.coords.now k.points.first.0 k.second
          → Seconds limit p first closed ds (Some k)
      second_here k ec ef f =
          let far = kept_far limit k.points.coords.now k.points.first.0 k.second (two k.points ec ef) f (omega (arith, k.within)) in
          let c : kept_points limit closed (endpoints_of first p) ≡ run_of limit k = kept_is k.points ec ef ∙ far in
          record { cut = rw (lt-ltb 0 (length ds) some, c, two_kept); here = c }

-- ---- what is drawn
module _ (o : Stroke) (ds : List Float) (r : Run Endpoint) where
  abbrev kept : List Endpoint
  kept = kept_points o.near r.closed r.points

  module _ (base : VertexId) where
    abbrev piece : Piece
    piece = mesh_piece o (from base) (cut_of o ds (r ∷ []))

    cut_piece : is_cut ds kept ≡ true → run_piece o (round_of o) base r.closed ds o.offset kept ≡ piece
    unfolding cut_runs cut_run
    cut_piece h = rw (h, append-nil) (lines_piece_lem o base _)

    uncut_piece : is_cut ds kept ≡ false → shape_piece o r.closed base (drawn_of o r) ≡ piece
    unfolding cut_runs cut_run mesh_vertices mesh_triangles
    uncut_piece h =
        let n : base.0 + 0 ≡ base.0 = omega arith in
        rw (h, n, append-nil (shape_vertices o (drawn_of o r)), append-nil (shape_triangles r.closed base.0 (drawn_of o r)))

  cut_few : 0 < length ds → CutsFew o ds (r ∷ []) → run_cuts r.closed ds o.offset kept ≤ cut_limit
  unfolding runs_cuts
  cut_few h f = let m = f h in omega (arith, m)

  cut_some : is_cut ds kept ≡ true → 0 < length ds
  cut_some h = go (ltb 0 (length ds)) refl h
    where
      go : (t : Bool) → ltb 0 (length ds) ≡ t → (t && ltb 1 (length kept)) ≡ true → 0 < length ds
      go true e h = ltb-true 0 (length ds) e
      go false e h = absurd (true≢false (sym h))

module _ (pass : Pass) (ds p : List Float) (first : ℕ) (closed : Bool) where
  abbrev o : Stroke
  o = pass.stroke

  abbrev run : Run Endpoint
  run = record { closed = closed; points = endpoints_of first p }

  abbrev whole : VertexId → Piece
  whole base = mesh_piece o (from base) (cut_of o ds (run ∷ []))

  -- cut
  module _ {k : Kept} (e : Seconds pass.stroke.near p first closed ds (Some k)) {r : Round} (er : r ≡ round_of o) where
    abbrev found : List Endpoint
    found = run_of o.near k

    is_cut_lem : is_cut ds (kept_points o.near closed (endpoints_of first p)) ≡ true
    is_cut_lem = sym e.cut

    dashes_are : (base : VertexId) → run_piece o r base closed ds o.offset found ≡ whole base
    dashes_are base = rw (er, ← e.here) (cut_piece o ds run base is_cut_lem)

    pub dashes_few : CutsFew o ds (run ∷ []) → (0 < length ds) × (run_cuts closed ds o.offset found ≤ cut_limit) × (r.detail ≤ 6)
    dashes_few f = let some = cut_some o ds run is_cut_lem in (some, rw e.here at (cut_few o ds run some f), round_shallow o er)

    module _ {base : VertexId} {l : Lists} where
      pub dashes_fit : Fits pass.write (from base) (whole base) l → Fits pass.write (from base) (run_piece o r base closed ds o.offset found) l
      dashes_fit f = rw (dashes_are base) f

      pub dashes_drawn : {l' : Lists} {q : Place} → Passes pass.write (from base) (run_piece o r base closed ds o.offset found) l l' q → Passes pass.write (from base) (whole base) l l' q
      dashes_drawn f = rw (dashes_are base) at f

  -- or not
  module _ (e : Seconds pass.stroke.near p first closed ds None) where
    shape_is : (base : VertexId) → shape_piece o closed base (drawn_of o run) ≡ whole base
    shape_is base = uncut_piece o ds run base (sym e.cut)

    module _ {base : VertexId} {l : Lists} where
      pub run_fits : Fits pass.write (from base) (whole base) l → DrawFits pass closed base (drawn_of o run) l
      run_fits f = rw (shape_is base) f

      pub run_drawn : {l' : Lists} {k : Place} → Draws pass closed base (drawn_of o run) l l' k → Passes pass.write (from base) (whole base) l l' k
      run_drawn f = rw (shape_is base) at f
