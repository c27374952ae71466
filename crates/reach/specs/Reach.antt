-- W-214: "Prove that with Miter, Bevel or Round joins, any cap and any accepted path, every x and y written is finite and at most 4,194,304 in size, stated over whole numbers with each
-- rounding counted." `Asked` is this sentence of the mesh call's own vertex list after the call, with any dashes or none (W-213); that it holds is proofs/Reach.antt. Assumes nothing.
use Rattle.std.specs.Prelude.{◌≡◌, ℕ, ◌+◌, ◌*◌, ◌^◌, ◌≤◌, ◌<◌, Bool, false, List, [], ◌∷◌, Float, get_or}
use Rattle.std.specs.Float.{nan}
use Rattle.std.specs.Float.Ieee.Exact.{HasValue}
use Rattle.refusals.specs.Numbers.{number_of, accepted}
use Rattle.endpoint.specs.declared.Endpoint.{Endpoint}
use Rattle.options.specs.Options.{stroke_of}
use Rattle.options.specs.declared.Options.{Options}
use Rattle.options.specs.declared.Stroke.{Stroke}
use Rattle.path.specs.Runs.{Run}
use Rattle.pieces.specs.Piece.{Lists}
use Rattle.joints.specs.Joint.{joints_of}
use Rattle.strip.specs.Joint.{vertex_count}
use Rattle.run.specs.Run.{Shape, nothing, empty_cap, along, round_cap, round_along, shape_count}
use Rattle.runs.specs.Runs.{path_runs, drawn_of}
use Rattle.mesh.specs.Mesh.{Outcome, outcome_of}

-- z is finite, and at most k in size: as every finite f32 it is a whole number of units of 2 ^ -149, up or down, and k is k * 2 ^ 149 of them
pub record AtMost (k : ℕ) (z : Float) : Type 0 where
  pub down : Bool
  pub units : ℕ
  pub value : HasValue z down units (2 ^ 149)
  pub most : units ≤ k * 2 ^ 149

-- "five f32 to a vertex (x, y, normal x, normal y, advancement)": of vertex i, in the list as the call left it, the float behind j others
abbrev pub float_at : Outcome → ℕ → ℕ → Float
float_at out i j = get_or out.lists.vertices (5 * i + j) nan

pub record Reached (out : Outcome) (place normal i : ℕ) : Type 0 where
  pub x : AtMost place (float_at out i 0)
  pub y : AtMost place (float_at out i 1)
  pub normal_x : AtMost normal (float_at out i 2)
  pub normal_y : AtMost normal (float_at out i 3)

-- of every vertex that the answer counts
abbrev pub AllReached : Outcome → ℕ → ℕ → Type 0
AllReached out place normal = (i : ℕ) → i < out.answer.vertices → Reached out place normal i

-- "with Miter, Bevel or Round joins": the number of the join that is left out, MiterClip
abbrev pub left_out : ℕ
left_out = 1

-- whatever is lent, and whatever lengths the dashes have, where the call answers 0
abbrev pub Within : ℕ → ℕ → Type 0
Within place normal =
    (verbs : List ℕ) (coords : List Float) (options : Options) (ds : List Float) (l : Lists) → let out = outcome_of verbs coords options ds l in
    out.answer.number ≡ number_of accepted → (options.line_join ≡ left_out → ⊥) → AllReached out place normal

-- what was asked for, and what is proved: 1,892,352 is 32,768 + 227 * 8,192, a coordinate and the longest normal times the largest half width
abbrev pub Asked : Type 0
Asked = Within 4194304 257

abbrev pub Proved : Type 0
Proved = Within 1892352 227

-- ---- advancements, with any join: finite, and none falls along a run's own vertices, which its arcs' stand behind
pub record NoFall (a b : Float) : Type 0 where
  pub first : ℕ
  pub second : ℕ
  pub first_is : HasValue a false first (2 ^ 149)
  pub second_is : HasValue b false second (2 ^ 149)
  pub rises : first ≤ second

-- W-209: "In a run arc vertices are numbered last, as written, with their centre's advancement": how many stand before them
abbrev pub base_count : Shape → ℕ
base_count nothing = 0
base_count (empty_cap p) = 4
base_count (along js) = vertex_count js
base_count (round_cap o p) = 4
base_count (round_along closed o p q ks) = vertex_count (joints_of closed o (p ∷ q ∷ ks))

-- run by run, cut or not, from the run's first vertex on
abbrev pub NoneFalls : Outcome → Stroke → ℕ → List (Run Endpoint) → Type 0
NoneFalls out o base [] = Unit {0}
NoneFalls out o base (r ∷ rs) =
    let s = drawn_of o r in ((i : ℕ) → i + 1 < base_count s → NoFall (float_at out (base + i) 4) (float_at out (base + i + 1) 4)) × NoneFalls out o (base + shape_count s) rs

abbrev pub Advances : Type 0
Advances =
    (verbs : List ℕ) (coords : List Float) (options : Options) (ds : List Float) (l : Lists) → let out = outcome_of verbs coords options ds l in
    let o = (stroke_of options ds).stroke in
    out.answer.number ≡ number_of accepted → ((i : ℕ) → i < out.answer.vertices → AtMost (2 ^ 33) (float_at out i 4)) × NoneFalls out o 0 (path_runs o ds verbs coords)
