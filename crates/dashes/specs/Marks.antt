-- The marks of a run: for each edge between its points, in order, the cuts that fall on it and then its end, a corner. Assumes nothing.
use Rattle.std.specs.Prelude.{ℕ, zero, suc, Bool, ◌&&◌, cond, List, [], ◌∷◌, ◌++◌, Float}
use Rattle.std.specs.Float.Ieee.{lt, le}
use Rattle.plane.specs.F32.{◌⊕◌, ◌⊖◌, ◌⊘◌, f32}
use Rattle.plane.specs.Vector.{plus_of, minus_of, times_of, length_of}
use Rattle.endpoint.specs.declared.Endpoint.{Endpoint}
use Rattle.dashes.specs.Pattern.{next_cut}
use Rattle.dashes.specs.declared.pattern.Beat.{Beat}
use Rattle.dashes.specs.declared.spot.Mark.{Mark}
use Rattle.dashes.specs.declared.spot.Mark.TheVariants.{Cut, Corner}
use Rattle.dashes.specs.declared.spot.Spot.{Spot}

-- "A cut b falls on the edge whose advancements have a0 at most b and b below a1"
unfoldable pub falls_on : Spot → Bool
falls_on s = le s.start s.beat.at && lt s.beat.at s.end

-- "at from + (to - from)*((b - a0)/(a1 - a0)), and takes the endpoint number of that edge's start"
unfoldable pub cut_of : Spot → Endpoint
cut_of s =
    let from = s.from.position in
    let share = (s.beat.at ⊖ s.start) ⊘ (s.end ⊖ s.start) in
    record { position = plus_of from (times_of (minus_of s.to.position from) share); id = s.from.id }

-- past the cut, on the same edge
unfoldable pub passed_of : List Float → Spot → Spot
passed_of ds s = record { from = s.from; to = s.to; start = s.start; end = s.end; beat = next_cut ds s.beat }

-- the edge from a, whose advancement is a0, to p, its end by rule 3; the next cut is b
unfoldable pub spot_of : Endpoint → Float → Endpoint → Beat → Spot
spot_of a a0 p b = record { from = a; to = p; start = a0; end = a0 ⊕ length_of (minus_of p.position a.position); beat = b }

-- past the corner, on the edge to p
abbrev pub turned_of : Spot → Endpoint → Spot
turned_of s p = spot_of s.to s.end p s.beat

-- "over 65,536 cut points in all" are refused
abbrev pub cut_limit : ℕ
cut_limit = 65536

-- so no accepted path has so many on an edge
abbrev pub cuts_enough : ℕ
cuts_enough = suc cut_limit

-- The first n cuts that fall on the edge, and the spot behind them. "A sum that does not rise is one more cut": it falls on the edge again.
unfoldable pub cuts_on : ℕ → List Float → Spot → List Endpoint
cuts_on zero ds s = []
cuts_on (suc n) ds s = cond (falls_on s) (cut_of s ∷ cuts_on n ds (passed_of ds s)) []

unfoldable pub behind : ℕ → List Float → Spot → Spot
behind zero ds s = s
behind (suc n) ds s = cond (falls_on s) (behind n ds (passed_of ds s)) s

unfoldable pub cut_marks : List Endpoint → List Mark
cut_marks [] = []
cut_marks (p ∷ ps) = Cut p ∷ cut_marks ps

-- from a spot on, and then through the points ps
unfoldable pub marks_from : List Float → Spot → List Endpoint → List Mark
marks_from ds s [] = cut_marks (cuts_on cuts_enough ds s) ++ Corner s.to ∷ []
marks_from ds s (p ∷ ps) = cut_marks (cuts_on cuts_enough ds s) ++ Corner s.to ∷ marks_from ds (turned_of (behind cuts_enough ds s) p) ps

-- "Each run's kept points are cut by advancement"; "a closed run is cut from p0", and its closing edge is one of its edges. "A run of one kept point
-- stays under rule 2", and has none
unfoldable pub marks_of : Bool → List Float → Beat → List Endpoint → List Mark
marks_of closed ds b [] = []
marks_of closed ds b (p0 ∷ []) = []
marks_of closed ds b (p0 ∷ p1 ∷ ps) = marks_from ds (spot_of p0 (f32 0) p1 b) (ps ++ cond closed (p0 ∷ []) [])
