-- Two runs computed: document 01's printed triangles, and a ring of two Bevel joins. Assumes nothing.
use mathlib.Core.Path.{◌≡◌, refl}
use mathlib.Core.Bool.{true, false}
use mathlib.Core.List.{[], ◌∷◌}
use lib.Ieee.{nan}
use Rattle.endpoint.specs.Endpoint.{blank_of}
use Rattle.endpoint.specs.declared.EndpointData.{EndpointData}
use Rattle.endpoint.specs.declared.InnerJoin.TheVariants.{Neither}
use Rattle.endpoint.specs.declared.LineJoin.TheVariants.{Bevel}
use Rattle.endpoint.specs.declared.SidePoints.TheVariants.{Pair}
use Rattle.strip.specs.Section.{sections}
use Rattle.lists.specs.Over.{flat}
use Rattle.pieces.specs.Piece.{flat_t}
use Rattle.strip.specs.Triangle.{different, tri_of, between, strip_of, through, triangles_of}

-- a join of two pair sides
abbrev both : EndpointData
both = record {
  position = blank_of.position;
  half_width = nan;
  advancement = nan;
  line_join = Bevel;
  id = blank_of.id;
  positive = Pair nan nan nan nan;
  negative = Pair nan nan nan nan;
  fold_positive = false;
  fold_negative = false;
  inner_join = Neither;
}

-- `M0 1L2 1`: "1 0 2", "1 2 3"
pub line : flat_t (triangles_of false 0 (blank_of ∷ blank_of ∷ [])) ≡ 1 ∷ 0 ∷ 2 ∷ 1 ∷ 2 ∷ 3 ∷ []
unfolding flat sections through strip_of between tri_of different
line = refl

-- "(0,0), (100,0) closed: Bevel 8 and 8"
pub ring : flat_t (triangles_of true 0 (both ∷ both ∷ []))
    ≡ 2 ∷ 0 ∷ 1 ∷ 2 ∷ 1 ∷ 3 ∷ 3 ∷ 1 ∷ 4 ∷ 3 ∷ 4 ∷ 6 ∷ 6 ∷ 4 ∷ 5 ∷ 6 ∷ 5 ∷ 7 ∷ 7 ∷ 5 ∷ 0 ∷ 7 ∷ 0 ∷ 2 ∷ []
unfolding flat sections through strip_of between tri_of different
ring = refl
