-- The joints of a round run one after another. Assumes nothing.
use Rattle.std.specs.Prelude.{ℕ, ◌≤◌, ◌<◌, ◌≡◌, Bool, false, List, [], ◌∷◌, map}
use Rattle.endpoint.specs.Endpoint.{id_limit}
use Rattle.endpoint.specs.declared.EndpointData.{EndpointData}
use Rattle.lists.specs.All.{All}
use Rattle.pieces.specs.Piece.{Piece, Lists}
use Rattle.options.specs.declared.Stroke.{Stroke}
use Rattle.strip.specs.Strip.{step_of, steps_of, StripFits}
use Rattle.strip.specs.declared.Strip.{Strip}
use Rattle.fans.specs.Weft.{nothing, then, WeftFits, WeftPasses}
use Rattle.fans.specs.declared.Round.{Round}
use Rattle.bends.specs.Bend.{bend_weft}
use Rattle.bends.specs.declared.Bend.{Bend}
use Rattle.bends.specs.declared.Weave.{Weave}

-- their joints
abbrev pub joints_in : List Bend → List EndpointData
joints_in bs = map (λ (b : Bend). b.joint) bs

-- what they bring, from the strip's state s on
unfoldable pub woven_from : Stroke → Round → Strip → Bool → List Bend → ℕ → Piece
woven_from o r s due [] = nothing
woven_from o r s due (b ∷ bs) = then (bend_weft o r s due b) (woven_from o r (step_of s b.joint) false bs)

-- behind a joint no fan is due
abbrev pub due_after : Bool → List Bend → Bool
due_after due [] = due
due_after due (b ∷ bs) = false

-- what a pass over them needs
pub record WeaveFits (write : Bool) (o : Stroke) (r : Round) (w : Weave) (bs : List Bend) (l : Lists) : Type 0 where
  pub shallow : r.detail ≤ 6
  pub strip : StripFits false w.strip (joints_in bs) l
  pub legs : All (λ (b : Bend). b.leg.from.id.0 < id_limit) bs
  pub fits : WeftFits write w.place (woven_from o r w.strip w.due bs) l

-- what it does, from w to w'
pub record WeavePasses (write : Bool) (o : Stroke) (r : Round) (bs : List Bend) (w : Weave) (l l' : Lists) (w' : Weave) : Type 0 where
  pub strip : w'.strip ≡ steps_of w.strip (joints_in bs)
  pub due : w'.due ≡ due_after w.due bs
  pub weft : WeftPasses write w.place (woven_from o r w.strip w.due bs) l l' w'.place
