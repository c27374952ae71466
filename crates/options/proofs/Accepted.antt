-- An answer of 0 is a stroke's, and nothing else. Assumes nothing.
use mathlib.Core.Path.{◌≡◌, refl}
use mathlib.Core.Bool.{Bool, true, false, ◌&&◌}
use mathlib.Core.List.{List}
use lib.Ieee.{Float}
use borrow.Author.Tests.{eqb-false}
use Rattle.refusals.specs.Numbers.{number_of, accepted}
use Rattle.refusals.specs.declared.Refusal.TheVariants.{OutOfRange}
use Rattle.plane.specs.Normal.{pick}
use Rattle.dashes.specs.Pattern.{pattern_in}
use Rattle.options.specs.Options.{accepting, refusing, in_range, prepared_of, stroke_of}
use Rattle.options.specs.declared.Options.{Options}
use Rattle.options.specs.declared.StrokeAnswer.{StrokeAnswer}

abbrev stroked_as : Options → Bool → StrokeAnswer
stroked_as options t = pick t (accepting (prepared_of options)) (refusing OutOfRange)

pub stroke_accepted : (options : Options) (ds : List Float) → (stroke_of options ds).number ≡ number_of accepted → stroke_of options ds ≡ accepting (stroke_of options ds).stroke
unfolding stroke_of
stroke_accepted options ds = go (in_range options && pattern_in ds options.offset)
  where
    go : (t : Bool) → (stroked_as options t).number ≡ number_of accepted → stroked_as options t ≡ accepting (stroked_as options t).stroke
    go true e = refl
    go false e = absurd (eqb-false 1 0 refl e)
