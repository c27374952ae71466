-- The source's routine, called for one side and then for the other, leaves what `side_positions_of` says, for all records and numbers, but for the points of a side whose
-- normal is zero. Assumes nothing.
--
-- One call is brought to the form `set join (put ..) (put ..) ..` (`one`), so that the second call reads its own side as it was; what is then left to see
-- is that the branches are the same (`branches`), which is a table of truth values.
use mathlib.Core.Path.{◌≡◌, refl, sym, ap, fun_ext, ◌∙◌}
use mathlib.Core.Bool.{Bool, true, false, not, ◌&&◌, ◌||◌}
use mathlib.Core.Option.{Option, none, some}
use lib.Ieee.{Float, lt}
use Rattle.plane.specs.F32.{◌⊖◌, ◌⊗◌, f32, above, not_below}
use Rattle.plane.specs.Normal.{pick, normal_of}
use Rattle.plane.specs.Vector.{plus_of, minus_of, times_of, dot_of, cross_of, square_length_of, normalize_of}
use Rattle.endpoint.specs.Endpoint.{sign_of}
use Rattle.endpoint.specs.declared.EndpointData.{EndpointData}
use Rattle.endpoint.specs.declared.LineJoin.{LineJoin}
use Rattle.endpoint.specs.declared.LineJoin.TheVariants.{Miter, MiterClip, Bevel, Round}
use Rattle.endpoint.specs.declared.Side.{Side}
use Rattle.endpoint.specs.declared.Side.TheVariants.{Positive, Negative}
use Rattle.join.specs.Clip.{zero_of, cut_of, clipped_of}
use Rattle.join.specs.Edge.{edge_side_of, edge_of}
use Rattle.join.specs.Side as crate
use Rattle.join.specs.Side.{inward_of, past_of, overshoots_of, folded_of, folds_of, too_long, exceeded_of, tip_of, kind_of, decided_of, tip_point_of, clipped_pair_of, points_of, is_inner, corner_of, join_side_of}
use Rattle.join.specs.Record.{turn_of, side_positions_of, inner_join_of}
use Rattle.join.specs.Source.{SourcePoints, SourceData, source_points, put, set, is_miter, is_miter_clip, compute_join_side_positions, edge_side, unset, points_in, last_inner, Same}
use Rattle.join.specs.declared.edge.Edge.{Edge}
use Rattle.join.specs.declared.side.Corner.{Corner}
use Rattle.join.specs.declared.side.Decided.{Decided}
use Rattle.join.specs.declared.side.Kind.{Kind}
use Rattle.join.specs.declared.side.Kind.TheVariants.{Inner, Single, Clipped, Beside}
use Rattle.join.specs.declared.side.Turn.{Turn}

-- ---- arrays
put_same : {A : Type 0} (f : Side → A) (side : Side) → put f side (f side) ≡ f
put_same f Positive = fun_ext at_each
  where
    at_each : (s : Side) → put f Positive (f Positive) s ≡ f s
    at_each Positive = refl
    at_each Negative = refl
put_same f Negative = fun_ext at_each
  where
    at_each : (s : Side) → put f Negative (f Negative) s ≡ f s
    at_each Positive = refl
    at_each Negative = refl

put_at_lem : {A : Type 0} (f : Side → A) (side : Side) (x : A) → put f side x side ≡ x
put_at_lem f Positive x = refl
put_at_lem f Negative x = refl

-- `if b { join.fold[side] = true; }` where it was false
put_if : (f : Side → Bool) (side : Side) (b : Bool) → f side ≡ false → pick b (put f side true) f ≡ put f side b
put_if f side true h = refl
put_if f side false h = rw h at (sym (put_same f side))

-- ---- branches
miter_or_clip : (j : LineJoin) → (is_miter j || is_miter_clip j) ≡ crate.is_miter j
miter_or_clip Miter = refl
miter_or_clip MiterClip = refl
miter_or_clip Bevel = refl
miter_or_clip Round = refl

-- the branches by their tests: inward, normal_same_side, forward, the back vertex past both edges, a tiny normal, a tip within the limit, a clip
module _ {A : Type 0} (f : Side → Bool) (side : Side) (h : f side ≡ false) (x : Kind → (Side → Bool) → A) where
  ours : Bool → Bool → Bool → Bool → Bool → Bool → Bool → A
  ours inward same forward past tiny tip clip =
      let fold = (inward && same) && (not forward && (((inward && same) && past) || tiny)) in
      x (pick ((inward && same) && not fold) (pick ((inward && same) && past) Inner Single) (pick tip Single (pick clip Clipped Beside))) (put f side fold)

  theirs : Bool → Bool → Bool → Bool → Bool → Bool → Bool → A
  theirs inward same forward past tiny tip clip =
      let overshoots = pick (inward && same) past false in
      let sharp = inward && not forward && same in
      let fold = pick (sharp && (overshoots || tiny)) (put f side true) f in
      let concave = inward && same && not (fold side) in
      pick (concave && overshoots) (x Inner fold) (pick (concave || tip) (x Single fold) (pick clip (x Clipped fold) (x Beside fold)))

  outer : (g : Side → Bool) (tip clip : Bool) → pick tip (x Single g) (pick clip (x Clipped g) (x Beside g)) ≡ x (pick tip Single (pick clip Clipped Beside)) g
  outer g true clip = refl
  outer g false true = refl
  outer g false false = refl

  still : (k : Kind) → x k f ≡ x k (put f side false)
  still k = ap (x k) (put_if f side false h)

  branches : (inward same forward past tiny tip clip : Bool) → theirs inward same forward past tiny tip clip ≡ ours inward same forward past tiny tip clip
  unfolding theirs ours
  branches false same forward past tiny tip clip = outer f tip clip ∙ still (pick tip Single (pick clip Clipped Beside))
  branches true false true past tiny tip clip = outer f tip clip ∙ still (pick tip Single (pick clip Clipped Beside))
  branches true false false past tiny tip clip = outer f tip clip ∙ still (pick tip Single (pick clip Clipped Beside))
  branches true true true true tiny tip clip = rw h (still Inner)
  branches true true true false tiny tip clip = rw h (still Single)
  branches true true false true tiny tip clip = rw (put_at_lem f side true) (outer (put f side true) tip clip)
  branches true true false false true tip clip = rw (put_at_lem f side true) (outer (put f side true) tip clip)
  branches true true false false false tip clip = rw h (still Single)

-- whether a side is an inner join does not turn on the limit
outside : (tip clip : Bool) → is_inner (pick tip Single (pick clip Clipped Beside)) ≡ false
outside true clip = refl
outside false true = refl
outside false false = refl

same_inner : (concave overshoots a b clip : Bool)
    → is_inner (pick concave (pick overshoots Inner Single) (pick a Single (pick clip Clipped Beside)))
    ≡ is_inner (pick concave (pick overshoots Inner Single) (pick b Single (pick clip Clipped Beside)))
same_inner true overshoots a b clip = refl
same_inner false overshoots a b clip = outside a clip ∙ sym (outside b clip)

-- ---- one call
module _ (prev next j : SourceData) (limit : Float) (side : Side) (points : Side → SourcePoints) where
  corner : Corner
  corner =
      let v0 = normalize_of (minus_of (points side).prev (prev.side_points side).next) in
      let v1 = normalize_of (minus_of (next.side_points side).prev (points side).next) in
      record { v0 = v0; v1 = v1; normal = times_of (normal_of v0 v1) (sign_of side); side = side }

  turn : Turn
  turn = record {
    position = j.position;
    half_width = j.half_width;
    limit = limit;
    before = j.advancement ⊖ prev.advancement;
    after = next.advancement ⊖ j.advancement;
    along = plus_of (normalize_of (minus_of j.position prev.position)) (normalize_of (minus_of next.position j.position));
    line_join = j.line_join;
  }

  decided : Decided
  decided = decided_of corner turn

  -- the tip and the kind by the source's limit, which a zero normal does not exceed
  abbrev tip : Bool
  tip = crate.is_miter j.line_join && not (too_long corner.normal limit)

  abbrev overshoots : Bool
  overshoots = overshoots_of (inward_of corner turn) corner turn

  abbrev concave : Bool
  concave = inward_of corner turn && not decided.fold

  kind : Kind
  kind = pick concave (pick overshoots Inner Single) (pick tip Single (pick (is_miter_clip j.line_join) Clipped Beside))

  kind_is : zero_of corner.normal ≡ false → kind ≡ decided.kind
  unfolding kind decided decided_of kind_of tip_of exceeded_of turn
  kind_is z = rw z

  inner_is : is_inner kind ≡ is_inner decided.kind
  unfolding kind decided decided_of kind_of tip_of turn
  inner_is = same_inner concave overshoots tip (tip_of corner.normal turn) (is_miter_clip j.line_join)

  -- the side's points by its kind
  left : Kind → SourcePoints
  left Inner = points side
  left Single = source_points (points side).prev (points side).next (some (plus_of j.position (times_of corner.normal j.half_width)))
  left Clipped =
      let n = clipped_of (minus_of (points side).prev j.position) (minus_of (points side).next j.position) (normalize_of corner.normal) (limit ⊗ j.half_width) in
      source_points (plus_of j.position n.prev) (plus_of j.position n.next) (points side).single_vertex
  left Beside = points side

  module _ (h : (points side).single_vertex ≡ none) (z : zero_of corner.normal ≡ false) where
    each_is : (k : Kind) → points_in (left k) ≡ points_of k (points side).prev (points side).next corner turn
    unfolding left turn tip_point_of clipped_pair_of cut_of
    each_is Inner = rw h
    each_is Single = refl
    each_is Clipped = rw (h, z)
    each_is Beside = rw h

    left_is : points_in (left kind) ≡ points_of decided.kind (points side).prev (points side).next corner turn
    left_is = rw (kind_is z) (each_is decided.kind)

  module _ (fold : Side → Bool) (inner : Option Side) where
    leaves : Kind → (Side → Bool) → SourceData
    leaves Inner g = set j points g (some side)
    leaves Single g = set j (put points side (left Single)) g inner
    leaves Clipped g = set j (put points side (left Clipped)) g inner
    leaves Beside g = set j points g inner

    leaves_is : (k : Kind) (g : Side → Bool) → leaves k g ≡ set j (put points side (left k)) g (pick (is_inner k) (some side) inner)
    unfolding leaves left
    leaves_is Inner g = rw (put_same points side)
    leaves_is Single g = refl
    leaves_is Clipped g = refl
    leaves_is Beside g = rw (put_same points side)

    one : fold side ≡ false → compute_join_side_positions prev (set j points fold inner) next limit side
        ≡ set j (put points side (left kind)) (put fold side decided.fold) (pick (is_inner kind) (some side) inner)
    unfolding compute_join_side_positions kind decided decided_of inward_of overshoots_of past_of folds_of folded_of corner turn leaves left theirs ours
    one h =
        rw (miter_or_clip j.line_join)
        (branches fold side h leaves
        (above (cross_of corner.v0 corner.v1 ⊗ sign_of side))
        (not_below (dot_of (plus_of corner.v0 corner.v1) turn.along))
        (above (dot_of corner.v0 corner.v1))
        (past_of corner turn)
        (lt (square_length_of corner.normal) (f32 0x3727c5ac))
        tip
        (is_miter_clip j.line_join))
        ∙ leaves_is kind (put fold side decided.fold)

-- ---- both calls
last_inner_lem : (p n : Bool) → pick n (some Negative) (pick p (some Positive) none) ≡ last_inner (inner_join_of p n)
unfolding inner_join_of
last_inner_lem true true = refl
last_inner_lem true false = refl
last_inner_lem false true = refl
last_inner_lem false false = refl

-- an endpoint between two others, and the edges to them; b0 and a2 are the edges beyond, whose sides are not read
module _ (e0 e1 e2 : EndpointData) (b0 a2 : Edge) (limit : Float) where
  abbrev before : Edge
  before = edge_of e0.position e1.position e1.half_width

  abbrev after : Edge
  after = edge_of e1.position e2.position e1.half_width

  abbrev prev : SourceData
  prev = unset e0 b0 before

  abbrev join : SourceData
  join = unset e1 before after

  abbrev next : SourceData
  next = unset e2 after a2

  abbrev call : SourceData → Side → SourceData
  call j side = compute_join_side_positions prev j next limit side

  fold : Side → (Side → SourcePoints) → Bool
  fold side ps = (decided prev next join limit side ps).fold

  p : Kind
  p = kind prev next join limit Positive join.side_points

  points : Side → SourcePoints
  points = put join.side_points Positive (left prev next join limit Positive join.side_points p)

  n : Kind
  n = kind prev next join limit Negative points

  called : call (call join Positive) Negative
      ≡ set join (put points Negative (left prev next join limit Negative points n))
      (put (put join.fold Positive (fold Positive join.side_points)) Negative (fold Negative points))
      (pick (is_inner n) (some Negative) (pick (is_inner p) (some Positive) none))
  unfolding p n points fold
  called =
      ap (λ (j : SourceData). call j Negative) (one prev next join limit Positive join.side_points join.fold none refl)
      ∙ one prev next join limit Negative points (put join.fold Positive (fold Positive join.side_points)) (pick (is_inner p) (some Positive) none) refl

  -- which sides have a zero normal
  abbrev zero : Side → Bool
  zero side = zero_of (corner_of (edge_side before side) (edge_side after side) side).normal

  inners : pick (is_inner n) (some Negative) (pick (is_inner p) (some Positive) none)
      ≡ last_inner (inner_join_of (is_inner (decided prev next join limit Positive join.side_points).kind) (is_inner (decided prev next join limit Negative points).kind))
  unfolding p n
  inners = rw (sym (inner_is prev next join limit Positive join.side_points), sym (inner_is prev next join limit Negative points)) (last_inner_lem (is_inner p) (is_inner n))

  pub source_same : Same zero (call (call join Positive) Negative) (side_positions_of before e1 after e0.advancement e2.advancement limit)
  unfolding p n points fold decided corner turn side_positions_of join_side_of corner_of turn_of edge_of edge_side_of normalize_of
  source_same =
      rw called
      (record {
        positive = left_is prev next join limit Positive join.side_points refl;
        negative = left_is prev next join limit Negative points refl;
        fold_positive = refl;
        fold_negative = refl;
        inner_join = inners;
      })
