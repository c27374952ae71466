-- The options, their ranges, and what the rules use of them; the lengths of dashes stand in a list beside them. Assumes nothing.
use Rattle.std.specs.Prelude.{ℕ, Bool, true, false, ◌&&◌, ◌||◌, cond, List, Result, Ok, Err, ltb, leb, eqb, Float}
use Rattle.std.specs.Float.Ieee.{le}
use Rattle.refusals.specs.Numbers.{number_of, accepted, verdict_of}
use Rattle.refusals.specs.declared.Refusal.{Refusal}
use Rattle.refusals.specs.declared.Refusal.TheVariants.{OutOfRange}
use Rattle.plane.specs.F32.{◌⊗◌, f32}
use Rattle.plane.specs.Normal.{pick}
use Rattle.endpoint.specs.declared.LineJoin.{LineJoin}
use Rattle.endpoint.specs.declared.LineJoin.TheVariants as joins
use Rattle.dashes.specs.Pattern.{pattern_in}
use Rattle.options.specs.declared.LineCap.{LineCap}
use Rattle.options.specs.declared.LineCap.TheVariants as caps
use Rattle.options.specs.declared.Options.{Options}
use Rattle.options.specs.declared.Stroke.{Stroke}
use Rattle.options.specs.declared.StrokeAnswer.{StrokeAnswer}

unfoldable pub within : Float → Float → Float → Bool
within low x high = le low x && le x high

-- "width 1/256 to 16,384"
abbrev pub width_in : Float → Bool
width_in w = within (f32 0x3b800000) w (f32 0x46800000)

-- "miter limit 1 to 1,024"
abbrev pub limit_in : Float → Bool
limit_in m = within (f32 0x3f800000) m (f32 0x44800000)

-- "join 0 Miter, 1 MiterClip, 2 Bevel"; W-209: "join 3 Round"
abbrev pub join_in : ℕ → Bool
join_in n = leb n 3

unfoldable pub line_join_of : ℕ → LineJoin
line_join_of n = pick (eqb n 0) joins.Miter (pick (eqb n 1) joins.MiterClip (pick (eqb n 2) joins.Bevel joins.Round))

-- "cap 0 Butt, 1 Square"; W-209: "cap 2 Round"
abbrev pub cap_in : ℕ → Bool
cap_in n = leb n 2

-- W-209: "an arc detail k from 0 to 6"
abbrev pub detail_in : ℕ → Bool
detail_in k = leb k 6

-- W-201: "The fixed 1/128 becomes an option from 1/128 to 1."
abbrev pub merge_in : Float → Bool
merge_in r = within (f32 0x3c000000) r (f32 0x3f800000)

unfoldable pub in_range : Options → Bool
in_range o = width_in o.width && limit_in o.miter_limit && merge_in o.merge_range && detail_in o.detail && (join_in o.line_join && cap_in o.cap)

unfoldable pub line_cap_of : ℕ → LineCap
line_cap_of n = pick (eqb n 0) caps.Butt (pick (eqb n 1) caps.Square caps.Round)

-- "clip is h for Square and 0 for Butt"; W-209: a round cap "has clip 0"
abbrev pub clip_of : LineCap → Float → Float
clip_of caps.Butt h = f32 0
clip_of caps.Square h = h
clip_of caps.Round h = f32 0

-- "Half width h is width * 0.5."; W-201: "that range squared in f32"
unfoldable pub prepared_of : Options → Stroke
prepared_of o =
    let h = o.width ⊗ f32 0x3f000000 in
    record {
      half_width = h;
      miter_limit = o.miter_limit;
      line_join = line_join_of o.line_join;
      cap = line_cap_of o.cap;
      clip = clip_of (line_cap_of o.cap) h;
      near = o.merge_range ⊗ o.merge_range;
      detail = o.detail;
      offset = o.offset;
    }

-- the values of a refusal: zeros, Miter and Butt
abbrev pub no_stroke : Stroke
no_stroke = record { half_width = f32 0; miter_limit = f32 0; line_join = joins.Miter; cap = caps.Butt; clip = f32 0; near = f32 0; detail = 0; offset = f32 0 }

-- "0: accepted"
abbrev pub accepting : Stroke → StrokeAnswer
accepting s = record { number = number_of accepted; place = 0; stroke = s }

abbrev pub refusing : Refusal → StrokeAnswer
refusing r = let a = verdict_of r in record { number = a.number; place = a.place; stroke = no_stroke }

-- "1: an option outside its range, NaN included"; W-213: "1 for a bad list"
unfoldable pub stroke_of : Options → List Float → StrokeAnswer
stroke_of o ds = pick (in_range o && pattern_in ds o.offset) (accepting (prepared_of o)) (refusing OutOfRange)

-- what each case of `stroke_of`'s answer stands for
abbrev pub stroke_answer_of : Result Stroke Refusal → StrokeAnswer
stroke_answer_of (Ok s) = accepting s
stroke_answer_of (Err r) = refusing r

-- W-209: "Add join 3 Round and cap 2 Round": which of them a stroke has
abbrev pub rounds_joins : LineJoin → Bool
rounds_joins joins.Miter = false
rounds_joins joins.MiterClip = false
rounds_joins joins.Bevel = false
rounds_joins joins.Round = true

abbrev pub rounds_caps : LineCap → Bool
rounds_caps caps.Butt = false
rounds_caps caps.Square = false
rounds_caps caps.Round = true

unfoldable pub is_round : Stroke → Bool
is_round o = rounds_joins o.line_join || rounds_caps o.cap

-- "k levels deep": of a stroke that has arcs, and never more than 6
unfoldable pub level_of : Stroke → ℕ
level_of o = cond (is_round o) (cond (ltb o.detail 6) o.detail 6) 0
