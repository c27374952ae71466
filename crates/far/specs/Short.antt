-- W-207: "under document 01's limits and any merge range of W-201, two kept points of an edge never give offset points so near." `NeverShort` is this
-- sentence; that it holds is proofs/Never.antt. Assumes nothing.
use Rattle.std.specs.Prelude.{◌≡◌, Bool, true, false, cond, ◌||◌, List, [], ◌∷◌, ◌++◌, Float}
use Rattle.std.specs.Float.Ieee.{lt}
use Rattle.plane.specs.F32.{◌⊗◌, f32, size_at_most}
use Rattle.plane.specs.Vector.{minus_of, square_length_of}
use Rattle.plane.specs.declared.vector.Point.{Point}
use Rattle.endpoint.specs.declared.Endpoint.{Endpoint}
use Rattle.path.specs.Runs.{Run}
use Rattle.options.specs.Options.{merge_in}
use Rattle.options.specs.declared.Stroke.{Stroke}
use Rattle.lists.specs.All.{All}
use Rattle.kept.specs.Kept.{kept_points}
use Rattle.joints.specs.Leg.{first_leg_of, legs_from}
use Rattle.joints.specs.declared.leg.Leg.{Leg}
use Rattle.stays.specs.Stays.{Inside}

-- ---- "offset points so near": refusal 5 was "an edge whose offset points on a side have f32 squared distance below 2^-40"
abbrev pub so_near : Float
so_near = f32 0x2b800000

-- 2^-20, which the roundings leave at the least
abbrev pub least_left : Float
least_left = f32 0x35800000

-- the points have f32 squared distance below a bound; those of a leg have, on a side
abbrev pub nearer : Float → Point → Point → Bool
nearer bound a b = lt (square_length_of (minus_of b a)) bound

unfoldable pub short_of : Float → Leg → Bool
short_of bound leg = let e = leg.edge in nearer bound e.positive.from e.positive.to || nearer bound e.negative.from e.negative.to

abbrev pub NotShort : Float → Leg → Type 0
NotShort bound leg = short_of bound leg ≡ false

-- ---- "two kept points of an edge": "the kept edges of all runs, closing ones included"; those of one run, and all
unfoldable pub legs_of : Bool → Float → List Endpoint → List Leg
legs_of closed h [] = []
legs_of closed h (p0 ∷ []) = []
legs_of closed h (p0 ∷ p1 ∷ ps) = let leg = first_leg_of h p0 p1 in leg ∷ legs_from h leg (ps ++ cond closed (p0 ∷ []) [])

unfoldable pub mesh_edges : Stroke → List (Run Endpoint) → List Leg
mesh_edges o [] = []
mesh_edges o (r ∷ rs) = legs_of r.closed o.half_width (kept_points o.near r.closed r.points) ++ mesh_edges o rs

-- ---- "document 01's limits": points inside, as stays has them, and "width 1/256 to 16,384", of which h is the half
abbrev pub Half : Float → Type 0
Half h = size_at_most h (f32 0x46000000) ≡ true

-- "any merge range of W-201": "from 1/128 to 1"
abbrev pub Range : Float → Type 0
Range r = merge_in r ≡ true

-- ---- of any points inside the limits, be they a path's or cut from its edges: no edge between those that are kept is short
abbrev pub NeverShort : Float → Type 0
NeverShort bound = (r h : Float) → Range r → Half h → (closed : Bool) (ps : List Endpoint) → All Inside ps → All (NotShort bound) (legs_of closed h (kept_points (r ⊗ r) closed ps))
