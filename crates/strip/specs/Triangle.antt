-- Rule 9: the triangles from section to section. Assumes nothing.
use Rattle.std.specs.Prelude.{ℕ, Bool, false, not, cond, List, [], ◌∷◌, ◌++◌, eqb}
use Rattle.triangles.specs.Tri.{Tri}
use Rattle.endpoint.specs.declared.EndpointData.{EndpointData}
use Rattle.strip.specs.declared.section.Section.{Section}
use Rattle.strip.specs.Section.{sections}

-- no two of the numbers are equal
unfoldable pub different : ℕ → ℕ → ℕ → Bool
different a b c = cond (eqb a b) false (cond (eqb b c) false (not (eqb a c)))

-- "each left out if two of its numbers are equal"
unfoldable pub tri_of : ℕ → ℕ → ℕ → List Tri
tri_of a b c = cond (different a b c) (record { a = a; b = b; c = c } ∷ []) []

-- (N, P, P')
abbrev pub on_positive : Section → Section → List Tri
on_positive s e = tri_of s.negative.0 s.positive.0 e.positive.0

-- (N, P', N')
abbrev pub on_negative : Section → Section → List Tri
on_negative s e = tri_of s.negative.0 e.positive.0 e.negative.0

-- "From one section to the next come (N, P, P') and (N, P', N')"
unfoldable pub between : Section → Section → List Tri
between s e = on_positive s e ++ on_negative s e

-- both, which none is left out of where no two of their numbers are equal
unfoldable pub both_of : Section → Section → List Tri
both_of s e = record { a = s.negative.0; b = s.positive.0; c = e.positive.0 } ∷ record { a = s.negative.0; b = e.positive.0; c = e.negative.0 } ∷ []

-- "A join has two sections": from the last section to the one before it, and on to the one after it
abbrev pub past : Section → Section → Section → List Tri
past last b a = between last b ++ between b a

-- from the section s through all others
unfoldable pub strip_of : Section → List Section → List Tri
strip_of s [] = []
strip_of s (e ∷ es) = between s e ++ strip_of e es

-- "Open run: start, joins 1 to n-2, end. Closed run: joins 1 to n-1, then 0, then round to join 1."
unfoldable pub through : Bool → List Section → List Tri
through closed [] = []
through closed (s ∷ ss) = strip_of s (ss ++ cond closed (s ∷ []) [])

-- the triangles of a run whose vertices are numbered from base
abbrev pub triangles_of : Bool → ℕ → List EndpointData → List Tri
triangles_of closed base js = through closed (sections base js)
