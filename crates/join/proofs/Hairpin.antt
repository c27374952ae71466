-- Document 02's W-208, of a side whose directions are opposite, so that its normal is zero, and do not go forward: whatever the limit, whether it folds or not. Assumes nothing.
use mathlib.Core.Path.{◌≡◌, refl}
use mathlib.Core.Bool.{Bool, true, false, not, ◌&&◌, ◌||◌}
use lib.Ieee.{Float, add, mul, neg, lt, eq, of_bits}
use Rattle.plane.specs.F32.{◌⊗◌, f32, above}
use Rattle.plane.specs.Normal.{epsilon, normal_of}
use Rattle.plane.specs.Vector.{point, plus_of, minus_of, times_of, dot_of, square_length_of}
use Rattle.plane.specs.declared.vector.Point.{Point}
use Rattle.endpoint.specs.Endpoint.{sign_of, pair_of}
use Rattle.endpoint.specs.declared.LineJoin.TheVariants.{Miter, MiterClip}
use Rattle.endpoint.specs.declared.Side.{Side}
use Rattle.endpoint.specs.declared.Side.TheVariants.{Positive, Negative}
use Rattle.join.specs.Clip.{zero_of, cut_of, clipped_of}
use Rattle.join.specs.Record.{side_of}
use Rattle.join.specs.Side.{corner_of, inward_of, overshoots_of, folded_of, folds_of, exceeded_of, tip_of, kind_of, decided_of, clipped_pair_of, join_side_of}
use Rattle.join.specs.declared.edge.EdgeSide.{EdgeSide}
use Rattle.join.specs.declared.side.Turn.{Turn}

-- no normal, on either side
nothing : Side → Point
nothing side = times_of (point (f32 0) (f32 0)) (sign_of side)

nothing_zero : (side : Side) → zero_of (nothing side) ≡ true
unfolding nothing zero_of times_of mul eq neg of_bits
nothing_zero Positive = refl
nothing_zero Negative = refl

nothing_tiny : (side : Side) → lt (square_length_of (nothing side)) (f32 0x3727c5ac) ≡ true
unfolding nothing square_length_of times_of add mul lt neg of_bits
nothing_tiny Positive = refl
nothing_tiny Negative = refl

-- an inward side that goes back and has no normal folds
not_concave : (inward overshoots : Bool) → (inward && not (inward && (not false && (overshoots || true)))) ≡ false
not_concave false overshoots = refl
not_concave true true = refl
not_concave true false = refl

module _ (before after : EdgeSide) (side : Side) (e : Turn) (opposite : lt (square_length_of (plus_of before.v after.v)) epsilon ≡ true) where
  normal_is : (corner_of before after side).normal ≡ nothing side
  unfolding corner_of normal_of nothing
  normal_is = rw opposite

  zero : zero_of (corner_of before after side).normal ≡ true
  zero = rw (normal_is, nothing_zero side)

  -- "a zero normal is now beyond every limit"
  pub beyond : (limit : Float) → exceeded_of (corner_of before after side).normal limit ≡ true
  unfolding exceeded_of
  beyond limit = rw zero

  tiny : lt (square_length_of (corner_of before after side).normal) (f32 0x3727c5ac) ≡ true
  tiny = rw (normal_is, nothing_tiny side)

  module _ (back : above (dot_of before.v after.v) ≡ false) where
    abbrev inward : Bool
    inward = inward_of (corner_of before after side) e

    abbrev overshoots : Bool
    overshoots = overshoots_of inward (corner_of before after side) e

    outer : (inward && not (folds_of inward overshoots (corner_of before after side))) ≡ false
    unfolding folds_of folded_of corner_of
    outer = rw (back, tiny) (not_concave inward overshoots)

    -- "Miter then gives a pair"
    pub miter_pair : e.line_join ≡ Miter → (side_of before after side e).points ≡ pair_of before.to after.from
    unfolding join_side_of decided_of kind_of tip_of
    miter_pair j = rw (outer, beyond e.limit, j)

    -- "and MiterClip takes the incoming side direction for u"
    pub clip_pair : e.line_join ≡ MiterClip → (side_of before after side e).points
        ≡ (let cut = clipped_of (minus_of before.to e.position) (minus_of after.from e.position) before.v (e.limit ⊗ e.half_width) in
        pair_of (plus_of e.position cut.prev) (plus_of e.position cut.next))
    unfolding join_side_of decided_of kind_of tip_of clipped_pair_of cut_of corner_of
    clip_pair j = rw (outer, beyond e.limit, j, zero)
