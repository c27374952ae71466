-- "26, over 65,536 cut points in all, place 0, directly after 4." Assumes nothing.
use Rattle.std.specs.Prelude.{ℕ, ◌&&◌, List, eqb, Float}
use Rattle.refusals.specs.Numbers.{number_of, verdict, accepted, too_many_cuts}
use Rattle.refusals.specs.declared.Verdict.{Verdict}
use Rattle.plane.specs.Normal.{pick}
use Rattle.path.specs.Path.{checked_of}
use Rattle.cuts.specs.Cuts.{has_too_many_cuts}

-- refusals 2 to 4, then 26
unfoldable pub cut_checked_of : Float → List Float → Float → List ℕ → List Float → Verdict
cut_checked_of limit ds offset verbs coords =
    let a = checked_of verbs coords in pick (eqb a.number (number_of accepted) && has_too_many_cuts limit ds offset verbs coords) (verdict too_many_cuts 0) a
