-- What a round run draws (W-209): "In a run arc vertices are numbered last, as written". Assumes nothing.
use Rattle.std.specs.Prelude.{ℕ, ◌+◌, ◌≤◌, Bool, true, false, List, [], ◌∷◌, ◌++◌}
use Rattle.endpoint.specs.declared.Endpoint.{Endpoint}
use Rattle.endpoint.specs.declared.VertexId.{VertexId}
use Rattle.pieces.specs.Piece.{Piece, Lists}
use Rattle.pieces.specs.declared.Place.{Place}
use Rattle.triangles.specs.Tri.{Tri}
use Rattle.options.specs.declared.Stroke.{Stroke}
use Rattle.joints.specs.Joint.{start_cap_of, joints_of}
use Rattle.joints.specs.Leg.{first_leg_of}
use Rattle.strip.specs.Joint.{vertex_count, vertices_of}
use Rattle.strip.specs.Strip.{start_of, step_of, steps_of, StripFits}
use Rattle.strip.specs.Triangle.{between}
use Rattle.strip.specs.declared.Strip.{Strip}
use Rattle.fans.specs.Weft.{nothing, faces, then, WeftFits}
use Rattle.fans.specs.declared.Round.{Round}
use Rattle.bends.specs.Weave.{joints_in, woven_from}
use Rattle.weave.specs.Points.{bends_of}

-- "then round to join 1": from a run's last section to its first
abbrev pub way_round : Strip → List Tri
way_round s = between s.last s.first

-- what is woven into its strip, whose vertices are numbered from base: the arcs' vertices, and all triangles; a closed run goes round to its first section
unfoldable pub woven_of : Bool → Stroke → Round → VertexId → List Endpoint → ℕ → Piece
woven_of closed o r base [] = nothing
woven_of closed o r base (p0 ∷ []) = nothing
woven_of false o r base (p0 ∷ p1 ∷ ps) = woven_from o r (step_of (start_of base) (start_cap_of o (first_leg_of o.half_width p0 p1))) r.caps (bends_of false o (p0 ∷ p1 ∷ ps))
woven_of true o r base (p0 ∷ p1 ∷ ps) =
    let bs = bends_of true o (p0 ∷ p1 ∷ ps) in
    then (woven_from o r (start_of base) false bs) (faces (way_round (steps_of (start_of base) (joints_in bs))))

-- the strip's vertices, behind them the arcs'
abbrev pub round_piece : Bool → Stroke → Round → VertexId → List Endpoint → Piece
round_piece closed o r base kept =
    let js = joints_of closed o kept in
    let w = woven_of closed o r base kept (base.0 + vertex_count js) in
    record { vertices = vertices_of js ++ w.vertices; triangles = w.triangles }

-- where it goes: behind the strip's n vertices, and over its triangles
abbrev pub over_strip : VertexId → ℕ → Place
over_strip base n = record { base = base; vertices = n; triangles = 0 }

-- what weaving it in at a place needs
pub record WovenFits (write closed : Bool) (o : Stroke) (r : Round) (base : VertexId) (kept : List Endpoint) (k : Place) (l : Lists) : Type 0 where
  pub shallow : r.detail ≤ 6
  pub strip : StripFits false (start_of base) (joints_of closed o kept) l
  pub fits : WeftFits write k (woven_of closed o r base kept) l
