-- The dashes of a run: its kept points cut "into open runs that carry on around joins inside a dash". Assumes nothing.
use Rattle.std.specs.Prelude.{Bool, true, false, cond, List, [], ◌∷◌, ◌++◌, Float}
use Rattle.endpoint.specs.declared.Endpoint.{Endpoint}
use Rattle.dashes.specs.Pattern.{is_dash, worn_of, first_cut}
use Rattle.dashes.specs.Marks.{marks_of}
use Rattle.dashes.specs.declared.spot.Mark.{Mark}
use Rattle.dashes.specs.declared.spot.Mark.TheVariants.{Cut, Corner}

-- Inside a dash, whose points so far are ps, a corner is its next point and a cut ends it; inside a gap a cut begins the next.
unfoldable pub dashes_from : Bool → List Endpoint → List Mark → List (List Endpoint)
dashes_from true ps [] = ps ∷ []
dashes_from true ps (Corner p ∷ ms) = dashes_from true (ps ++ p ∷ []) ms
dashes_from true ps (Cut p ∷ ms) = (ps ++ p ∷ []) ∷ dashes_from false [] ms
dashes_from false ps [] = []
dashes_from false ps (Corner p ∷ ms) = dashes_from false [] ms
dashes_from false ps (Cut p ∷ ms) = dashes_from true (p ∷ []) ms

-- The first point is in a dash where the length that ends at the first cut is one. "Its last dash doesn't join its first": all are open.
unfoldable pub dashes_of : Bool → List Float → Float → List Endpoint → List (List Endpoint)
dashes_of closed ds o [] = []
dashes_of closed ds o (p0 ∷ ps) =
    let b = first_cut ds (worn_of ds o) in
    let ms = marks_of closed ds b (p0 ∷ ps) in
    cond (is_dash ds b.index) (dashes_from true (p0 ∷ []) ms) (dashes_from false [] ms)
