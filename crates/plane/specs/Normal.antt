-- lyon's `compute_normal`, in its order of operations, and its domain: "components finite, size at most 2". Assumes nothing.
use Rattle.std.specs.Prelude.{Bool, true, false, ◌&&◌, Float, Option, Some, None}
use Rattle.std.specs.Float.Ieee.{lt}
use Rattle.refusals.specs.Numbers.{number_of, accepted, bad_coordinate}
use Rattle.plane.specs.F32.{f32, size_below, size_at_most}
use Rattle.plane.specs.Vector.{point, plus_of, divided_of, turned_of, dot_of, square_length_of, normalize_of}
use Rattle.plane.specs.declared.vector.Point.{Point}
use Rattle.plane.specs.declared.normal.NormalAnswer.{NormalAnswer}

-- 1e-4 and 2
abbrev pub epsilon : Float
epsilon = f32 0x38d1b717

abbrev pub two : Float
two = f32 0x40000000

abbrev pub pick : {A : Type 0} → Bool → A → A → A
pick true a b = a
pick false a b = b

-- n is the sum's direction, a quarter turned, over its part along v1's own normal; none where v1 and v2 are opposite
unfoldable pub normal_of : Point → Point → Point
normal_of v1 v2 =
    let n1 = turned_of v1 in
    let v12 = plus_of v1 v2 in
    let n = turned_of (normalize_of v12) in
    let inverse = dot_of n n1 in
    pick (lt (square_length_of v12) epsilon) (point (f32 0) (f32 0)) (pick (size_below inverse epsilon) n1 (divided_of n inverse))

unfoldable pub in_domain : Point → Bool
in_domain v = size_at_most v.x two && size_at_most v.y two

-- "`compute_normal` outside its domain is 4 with place 0 and a zero vector"
abbrev pub normal_answer_of : Option Point → NormalAnswer
normal_answer_of (Some n) = record { number = number_of accepted; place = 0; x = n.x; y = n.y }
normal_answer_of None = record { number = number_of bad_coordinate; place = 0; x = f32 0; y = f32 0 }

unfoldable pub compute_normal_of : Point → Point → NormalAnswer
compute_normal_of v1 v2 = normal_answer_of (pick (in_domain v1 && in_domain v2) (Some (normal_of v1 v2)) None)
