-- A pass: what is counted and, where it writes, written is the runs that are done. The plan: runs one behind the other are pieces one behind the other; the run that a
-- verb ends is drawn in the parts behind them; so `Going`, which says how far the pass has come, goes on verb by verb. Assumes nothing.
use Prim.Native.Nat.{ℕ, ◌+◌, ◌-◌, ◌*◌, ◌≤◌, ◌<◌}
use mathlib.Core.Path.{◌≡◌}
use mathlib.Core.Bool.{Bool, false, cond}
use mathlib.Core.List.{List, [], ◌∷◌, ◌++◌}
use native.Mathlib.Omega.{arith}
use borrow.Rule.Slice.PartMut.{mid_of, put_mid}
use lib.Dec.{eqb}
use lib.Ieee.{Float}
use lib.ListN.{length, drop, get_or}
use Rattle.endpoint.specs.declared.Endpoint.{Endpoint}
use Rattle.endpoint.specs.declared.VertexId.{VertexId}
use Rattle.pieces.specs.Piece.{Piece, joined, behind, from, next_vertex, anew, Lists, lent, Fits, Passes}
use Rattle.endpoint.specs.Endpoint.{id_limit}
use Rattle.pieces.specs.declared.Place.{Place}
use Rattle.pieces.proofs.Pieces.{puts_none, puts_both, fits_front, fits_back, reached, parts_fit, parts_put}
use Rattle.options.specs.declared.Stroke.{Stroke}
use Rattle.path.specs.Runs.{Run, runs_from}
use Rattle.path.specs.Verbs.{end_closed, names}
use Rattle.cuts.specs.Runs.{cut_runs}
use Rattle.cuts.proofs.Runs.{cut_append, few_between}
use Rattle.runs.specs.Runs.{cut_of, CutsFew, mesh_vertices, mesh_triangles, mesh_piece}
use Rattle.runs.specs.Cursor.{undrawn, start_of, moved_of, current_of, ended_of}
use Rattle.runs.specs.declared.cursor.Cursor.{Cursor}
use Rattle.runs.proofs.Passing.{Passing, moved_place, pass_none, pass_split, pass_turn, pass_all}
use Rattle.runs.proofs.Runs.{meshes_append}

-- ---- runs one behind the other, as they are drawn
module _ (o : Stroke) (ds : List Float) where
  abbrev pub piece_of : Place → List (Run Endpoint) → Piece
  piece_of k rs = mesh_piece o k (cut_of o ds rs)

  pieces_append : (k : Place) (xs ys : List (Run Endpoint)) → piece_of k (xs ++ ys) ≡ joined (piece_of k xs) (piece_of (behind k (piece_of k xs)) ys)
  pieces_append k xs ys = rw (cut_append o.near ds o.offset xs ys) (meshes_append o k (cut_of o ds xs) (cut_of o ds ys))

  module _ {write : Bool} {k : Place} {l : Lists} where
    pub runs_none : Passes write k (piece_of k []) l l k
    unfolding cut_runs mesh_vertices mesh_triangles
    runs_none = puts_none

    runs_front : (xs ys : List (Run Endpoint)) → Fits write k (piece_of k (xs ++ ys)) l → Fits write k (piece_of k xs) l
    runs_front xs ys h = fits_front (piece_of k xs) (piece_of (behind k (piece_of k xs)) ys) (rw (pieces_append k xs ys) at h)

    module _ (xs ys : List (Run Endpoint)) {l1 : Lists} {k1 : Place} (e : Passes write k (piece_of k xs) l l1 k1) where
      split : piece_of k (xs ++ ys) ≡ joined (piece_of k xs) (piece_of k1 ys)
      split = rw e.place (pieces_append k xs ys)

      runs_back : Fits write k (piece_of k (xs ++ ys)) l → Fits write k1 (piece_of k1 ys) l1
      runs_back h = fits_back (piece_of k xs) (piece_of k1 ys) (rw split at h) e

      pub runs_both : {l2 : Lists} {k2 : Place} → Passes write k1 (piece_of k1 ys) l1 l2 k2 → Passes write k (piece_of k (xs ++ ys)) l l2 k2
      runs_both f = rw split (puts_both e f)

-- ---- a verb: one that names no point ends the current run
module _ (o : Stroke) (ds : List Float) (g : Cursor) (verb : ℕ) (ps : List Endpoint) where
  abbrev run : Piece
  run = piece_of o ds g.place (current_of g verb ps ∷ [])

  one_is : names verb ≡ false → piece_of o ds g.place (ended_of g verb ps) ≡ run
  unfolding ended_of
  one_is n = rw n

  -- it is drawn in the parts that begin at a, b and c, whose first vertex has the number `vertex`, from its points qs
  module _ {write : Bool} {v : List Float} {s t : List ℕ} {a b c : ℕ} {vertex : VertexId} {qs : List Endpoint} (n : names verb ≡ false) (ea : a ≡ cond write (5 * g.place.vertices) 0)
      (eb : b ≡ cond write g.place.vertices 0) (ec : c ≡ cond write (3 * g.place.triangles) 0) (ev : vertex ≡ record { 0 = next_vertex g.place }) (eq : qs ≡ (current_of g verb ps).points)
      (h : Fits write g.place (piece_of o ds g.place (ended_of g verb ps)) (lent v s t)) where
    run_fits : Fits write g.place run (lent v s t)
    run_fits = rw (one_is n) at h

    abbrev parts : Lists
    parts = lent (mid_of a (length v - a) v) (mid_of b (length s - b) s) (mid_of c (length t - c) t)

    abbrev part : Piece
    part = piece_of o ds (from vertex) (record { closed = eqb verb end_closed; points = qs } ∷ [])

    part_is : part ≡ run
    part_is = let m : next_vertex g.place + 0 ≡ next_vertex g.place = omega arith in rw (ev, eq, m)

    pub part_fits : Fits write (from vertex) part parts
    part_fits = rw (part_is, ea, eb, ec, ev) (parts_fit g.place run v s t write run_fits)

    module _ {v' : List Float} {s' t' : List ℕ} {r : Place} (e : Passes write (from vertex) part parts (lent v' s' t') r) where
      drawn : Passes write (anew g.place) run parts (lent v' s' t') r
      drawn = rw (part_is, ev) at e

      pub part_few : (next_vertex g.place + r.vertices < id_limit) × (g.place.triangles + r.triangles < id_limit)
      part_few = rw drawn.place (omega (arith, run_fits.numbers), omega (arith, run_fits.faces))

      pub part_puts : Passes write g.place (piece_of o ds g.place (ended_of g verb ps)) (lent v s t) (lent (put_mid a (length v - a) v v') (put_mid b (length s - b) s s') (put_mid c (length t - c) t t'))
          (reached g.place run v s t r)
      part_puts = rw (one_is n, ea, eb, ec) (parts_put g.place run v s t write run_fits v' s' t' r (rw (ea, eb, ec) at drawn))

  -- no more cuts than of the verb's runs
  pub part_cuts : {qs : List Endpoint} → names verb ≡ false → qs ≡ (current_of g verb ps).points → CutsFew o ds (ended_of g verb ps) → CutsFew o ds (record { closed = eqb verb end_closed; points = qs } ∷ [])
  unfolding ended_of
  part_cuts n eq f = rw eq (rw n at f)

-- ---- the pass
pub record Going (write : Bool) (o : Stroke) (ds : List Float) (vs : List ℕ) (ps : List Endpoint) (l0 : Lists) (i : ℕ) (g : Cursor) (l : Lists) : Type 0 where
  pub done : List (Run Endpoint)
  pub passing : Passing vs ps i g done
  pub puts : Passes write undrawn (piece_of o ds undrawn done) l0 l g.place

pub going_none : (write : Bool) (o : Stroke) (ds : List Float) (vs : List ℕ) (ps : List Endpoint) (l : Lists) → Going write o ds vs ps l 0 start_of l
going_none write o ds vs ps l = record { done = []; passing = pass_none vs ps; puts = runs_none o ds }

module _ {write : Bool} {o : Stroke} {ds : List Float} {vs : List ℕ} {ps : List Endpoint} {l0 : Lists} {i : ℕ} {g : Cursor} {l : Lists} (m : Going write o ds vs ps l0 i g l) where
  module _ (h : i < length vs) where
    xs : List (Run Endpoint)
    xs = ended_of g (get_or vs i 0) ps

    rest : List (Run Endpoint)
    rest = let n = moved_of g (get_or vs i 0) undrawn in runs_from n.size (drop (i + 1) vs) (drop n.first.0 ps)

    pub going_few : CutsFew o ds (runs_from 0 vs ps) → CutsFew o ds (ended_of g (get_or vs i 0) ps)
    unfolding xs rest
    going_few f = few_between o.near ds o.offset m.done xs rest (rw (pass_split vs ps i g m.done m.passing undrawn h) at f)

    pub going_fits : Fits write undrawn (piece_of o ds undrawn (runs_from 0 vs ps)) l0 → Fits write g.place (piece_of o ds g.place (ended_of g (get_or vs i 0) ps)) l
    unfolding xs rest
    going_fits f = runs_front o ds xs rest (runs_back o ds m.done (xs ++ rest) m.puts (rw (pass_split vs ps i g m.done m.passing undrawn h) at f))

    pub going_turn : {k : Place} {l1 : Lists} → Passes write g.place (piece_of o ds g.place (ended_of g (get_or vs i 0) ps)) l l1 k → Going write o ds vs ps l0 (i + 1) (moved_of g (get_or vs i 0) k) l1
    unfolding xs
    going_turn {k} e = record {
      done = m.done ++ xs;
      passing = pass_turn vs ps i g m.done m.passing k h;
      puts = rw (moved_place g (get_or vs i 0) k ps) (runs_both o ds m.done xs m.puts e);
    }

  pub going_all : length vs ≤ i → Passes write undrawn (piece_of o ds undrawn (runs_from 0 vs ps)) l0 l g.place
  going_all h = rw (pass_all vs ps i g m.done m.passing h) at m.puts
