-- An edge between two points that are not near is not short: the points beside its ends are not too near each other, on either side. Not near is ten
-- grains apart in a component, the offset is bounded, and of ten grains it leaves two. And nearness is the same both ways. Assumes nothing.
use mathlib.Core.Path.{◌≡◌}
use mathlib.Core.Logic.{◌⊎◌, inl, inr}
use mathlib.Core.Bool.{Bool, false, ◌||◌}
use lib.Dec.{lit<}
use lib.Ieee.{Float, binary32, add, sub, lt}
use Rattle.plane.specs.Vector as vector
use Rattle.endpoint.specs.declared.Endpoint.{Endpoint}
use Rattle.join.specs.Edge.{edge_of, edge_side_of}
use Rattle.kept.specs.Kept.{near_of, near}
use Rattle.joints.specs.Leg.{leg_of}
use Rattle.rounding.proofs.Results.{bounded_neg, Within}
use Rattle.rounding.proofs.Differences.{Gap, gap}
use Rattle.rounding.proofs.Squares.{square_length, square_mirrored}
use Rattle.stays.specs.Stays.{Inside}
use Rattle.stays.proofs.Cutting.{coordinate}
use Rattle.far.specs.Short.{short_of, NotShort}
use Rattle.far.proofs.Ranges.{Limit}
use Rattle.far.proofs.Apart.{Apart, not_near_apart, Reached, two_grains}
use Rattle.far.proofs.Offsets.{Offset, offset_x, offset_y}
use Rattle.far.proofs.Moved.{moved}

-- ---- two points: nearness, by the distance in a component
module _ {p q : Endpoint} (P : Inside p) (Q : Inside q) where
  abbrev pub gap_x : Gap 32768 p.position.x q.position.x
  gap_x = gap 32768 p.position.x q.position.x (lit< tt) (coordinate p.position.x P.x) (coordinate q.position.x Q.x)

  abbrev pub gap_y : Gap 32768 p.position.y q.position.y
  gap_y = gap 32768 p.position.y q.position.y (lit< tt) (coordinate p.position.y P.y) (coordinate q.position.y Q.y)

  pub near_apart : (limit : Float) → Limit limit → near limit p q ≡ false → Apart gap_x ⊎ Apart gap_y
  unfolding near_of vector.minus_of vector.square_length_of
  near_apart limit l e = not_near_apart gap_x gap_y limit l.size l.value l.least e

  pub near_mutual : (limit : Float) → near limit p q ≡ near limit q p
  unfolding near_of vector.minus_of vector.square_length_of
  near_mutual limit = rw (square_mirrored (lit< tt) gap_x, square_mirrored (lit< tt) gap_y)

-- ---- one side
side : {a b c d o p : Float} (G : Gap 32768 a b) (H : Gap 32768 c d) → Apart G ⊎ Apart H → Offset o → Offset p → (bound : Float) → Reached bound
    → lt (square_length (sub binary32 (add binary32 b o) (add binary32 a o)) (sub binary32 (add binary32 d p) (add binary32 c p))) bound ≡ false
side G H far O P =
    let X = moved O G in
    let Y = moved P H in
    two_grains X.difference Y.difference (elim far [ inl i ↦ inl (X.far i) | inr i ↦ inr (Y.far i) ])

-- ---- both sides
neither : (a b : Bool) → a ≡ false → b ≡ false → (a || b) ≡ false
neither a b p q = rw (p, q)

module _ (limit h start : Float) (a b : Endpoint) (least : Limit limit) (half : Within 8192 h) (from : Inside a) (to : Inside b) where
  pub not_short : near limit a b ≡ false → (bound : Float) → Reached bound → NotShort bound (leg_of h start a b)
  unfolding short_of leg_of edge_of edge_side_of vector.plus_of vector.minus_of vector.times_of vector.divided_of vector.turned_of vector.square_length_of vector.length_of sub
  not_short e bound r =
      let G = gap_x from to in
      let H = gap_y from to in
      let far = near_apart from to limit least e in
      let O = offset_x G H far h half in
      let P = offset_y G H far h half in
      neither _ _ (side G H far O P bound r) (side G H far (bounded_neg O) (bounded_neg P) bound r)
