-- W-210: the part that is handed back of a list that the mesh call wrote is what the run wrote there. That it holds is `is_wrote` of proofs/Wrote.antt. Assumes nothing.
use Rattle.std.specs.Prelude.{ℕ, ◌<◌, ◌≡◌, List, Float, length}
use Rattle.refusals.specs.Numbers.{number_of, accepted}
use Rattle.options.specs.declared.Options.{Options}
use Rattle.options.specs.declared.Stroke.{Stroke}
use Rattle.pieces.specs.Piece.{flat_v}
use Rattle.runs.specs.Part.{run_at}
use Rattle.runs.specs.Runs.{runs_of, cut_of, mesh_vertices}
use Rattle.measure.specs.Part.{handed_of}

-- of the run of the number k, and of the vertex list v as the mesh call left it
pub record Wrote (verbs : List ℕ) (coords : List Float) (options : Options) (ds : List Float) (o : Stroke) (k : ℕ) (v : List Float) : Type 0 where
  pub run : k < length (runs_of verbs coords) → handed_of verbs coords options ds k v ≡ record { number = number_of accepted; place = 0; part = flat_v (mesh_vertices o (cut_of o ds (run_at k (runs_of verbs coords)))) }
