-- W-210, "the run of a given number, from 0 over the begin verbs": the vertices that the runs before it drew, and those that it drew. W-213: "W-210's number of the
-- uncut": a run has the vertices of all its dashes. Assumes nothing.
use Rattle.std.specs.Prelude.{ℕ, ◌+◌, cond, List, ltb, leb, Float, length, take, drop}
use Rattle.endpoint.specs.declared.Endpoint.{Endpoint}
use Rattle.options.specs.declared.Stroke.{Stroke}
use Rattle.path.specs.Runs.{Run}
use Rattle.path.specs.Verbs.{names}
use Rattle.pieces.specs.Piece.{behind}
use Rattle.runs.specs.Cursor.{undrawn}
use Rattle.runs.specs.Runs.{cut_of, mesh_count, mesh_piece}
use Rattle.runs.specs.declared.part.Seen.{Seen}
use Rattle.runs.specs.declared.part.Told.{Told}

-- the run of that number alone; none where there is no run of that number
abbrev pub run_at : ℕ → List (Run Endpoint) → List (Run Endpoint)
run_at k rs = take 1 (drop k rs)

-- how many runs there are, and the vertices before the run of the number k and up to its end
abbrev pub seen_of : Stroke → List Float → ℕ → List (Run Endpoint) → Seen
seen_of o ds k rs = record { ended = length rs; before = mesh_count o (cut_of o ds (take k rs)); through = mesh_count o (cut_of o ds (take (k + 1) rs)) }

-- one run more, behind which so many vertices are drawn
unfoldable pub ended_with : Seen → ℕ → ℕ → Seen
ended_with s k drawn =
    cond (ltb s.ended k) (record { ended = s.ended + 1; before = drawn; through = drawn })
    (cond (leb s.ended k) (record { ended = s.ended + 1; before = s.before; through = drawn }) (record { ended = s.ended + 1; before = s.before; through = s.through }))

unfoldable pub noted_of : Seen → ℕ → ℕ → ℕ → Seen
noted_of s k verb drawn = cond (names verb) s (ended_with s k drawn)

-- what a pass over all runs tells
abbrev pub told_of : Stroke → List Float → ℕ → List (Run Endpoint) → Told
told_of o ds k rs = record { place = behind undrawn (mesh_piece o undrawn (cut_of o ds rs)); seen = seen_of o ds k rs }
