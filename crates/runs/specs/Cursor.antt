-- Where a pass over the verbs stands, and the run that a verb ends. Assumes nothing.
use Rattle.std.specs.Prelude.{ℕ, ◌+◌, cond, List, [], ◌∷◌, eqb, take, drop}
use Rattle.endpoint.specs.Endpoint.{endpoint_after}
use Rattle.endpoint.specs.declared.Endpoint.{Endpoint}
use Rattle.pieces.specs.Piece.{from}
use Rattle.pieces.specs.declared.Place.{Place}
use Rattle.path.specs.Runs.{Run}
use Rattle.path.specs.Verbs.{end_closed, names}
use Rattle.runs.specs.declared.cursor.Cursor.{Cursor}

-- where a mesh begins
abbrev pub undrawn : Place
undrawn = from (record { 0 = 0 })

abbrev pub start_of : Cursor
start_of = record { first = record { 0 = 0 }; size = 0; place = undrawn }

unfoldable pub moved_of : Cursor → ℕ → Place → Cursor
moved_of g verb place = cond (names verb) (record { first = g.first; size = g.size + 1; place = place }) (record { first = endpoint_after g.first g.size; size = 0; place = place })

-- the run that is current
abbrev pub current_of : Cursor → ℕ → List Endpoint → Run Endpoint
current_of g verb ps = record { closed = eqb verb end_closed; points = take g.size (drop g.first.0 ps) }

-- the runs that a verb ends: none where it names a point, else the current one
unfoldable pub ended_of : Cursor → ℕ → List Endpoint → List (Run Endpoint)
ended_of g verb ps = cond (names verb) [] (current_of g verb ps ∷ [])
