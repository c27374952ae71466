-- What the mesh call's own parts promise each other. Assumes nothing.
use Rattle.std.specs.Prelude.{◌≡◌, List}
use Rattle.endpoint.specs.declared.Endpoint.{Endpoint}
use Rattle.pieces.specs.Piece.{Lists, behind}
use Rattle.pieces.specs.declared.Place.{Place}
use Rattle.path.specs.Runs.{Run}
use Rattle.options.specs.declared.Stroke.{Stroke}
use Rattle.runs.specs.Cursor.{undrawn}
use Rattle.runs.specs.Runs.{mesh_piece}

-- the runs rs are counted, and the lists are as before
pub record Counted (o : Stroke) (rs : List (Run Endpoint)) (l l' : Lists) (k : Place) : Type 0 where
  pub place : k ≡ behind undrawn (mesh_piece o undrawn rs)
  pub lists : l' ≡ l
