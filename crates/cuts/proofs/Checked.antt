-- What is accepted behind refusals 2 to 4 and 26: a sound path, and no more cuts than 26 accepts. Assumes nothing.
use Prim.Native.Nat.{ℕ, ◌*◌, ◌≤◌, ◌<◌}
use mathlib.Core.Path.{◌≡◌, refl}
use mathlib.Core.Bool.{Bool, true, false, ◌&&◌, true≢false}
use mathlib.Core.List.{List}
use native.Mathlib.Omega.{arith}
use borrow.Author.Tests.{ltb-false, ne_eqb}
use lib.Dec.{eqb}
use lib.Ieee.{Float}
use lib.ListN.{length}
use Rattle.refusals.specs.Numbers.{number_of, verdict, verdict_of, accepted, too_many_cuts}
use Rattle.refusals.specs.declared.Refusal.{Refusal}
use Rattle.refusals.specs.declared.Refusal.TheVariants.{OutOfRange, TooManyVerbs, Verb, Coordinate, TooManyCuts}
use Rattle.endpoint.specs.Endpoint.{id_limit}
use Rattle.plane.specs.Normal.{pick}
use Rattle.path.specs.Path.{checked_of, Sound}
use Rattle.path.specs.Runs.{runs_from}
use Rattle.path.specs.Verbs.{point_count}
use Rattle.path.proofs.Laws.{sound, count_le}
use Rattle.kept.specs.Points.{endpoints_of}
use Rattle.dashes.specs.Marks.{cut_limit}
use Rattle.cuts.specs.Checked.{cut_checked_of}
use Rattle.cuts.specs.Cuts.{path_cuts, has_too_many_cuts}
use Rattle.cuts.specs.Runs.{FewCuts}

module _ (limit : Float) (ds : List Float) (offset : Float) (vs : List ℕ) (cs : List Float) where
  -- neither was refused
  both : (cut_checked_of limit ds offset vs cs).number ≡ number_of accepted → ((checked_of vs cs).number ≡ number_of accepted) × (has_too_many_cuts limit ds offset vs cs ≡ false)
  unfolding cut_checked_of
  both e = go (eqb (checked_of vs cs).number (number_of accepted)) refl (has_too_many_cuts limit ds offset vs cs) refl e
    where
      go : (t : Bool) → eqb (checked_of vs cs).number (number_of accepted) ≡ t → (b : Bool) → has_too_many_cuts limit ds offset vs cs ≡ b
          → (pick (t && b) (verdict too_many_cuts 0) (checked_of vs cs)).number ≡ number_of accepted → ((checked_of vs cs).number ≡ number_of accepted) × (has_too_many_cuts limit ds offset vs cs ≡ false)
      go true p true q e = absurd (omega (arith, e))
      go true p false q e = (e, q)
      go false p b q e = absurd (true≢false (rw e at p))

  few : has_too_many_cuts limit ds offset vs cs ≡ false → 0 < length ds → path_cuts limit ds offset vs cs ≤ cut_limit
  unfolding has_too_many_cuts
  few e h =
      let some : eqb (length ds) 0 ≡ false = ne_eqb (length ds) 0 (λ z. absurd (omega (arith, z))) in
      ltb-false cut_limit (path_cuts limit ds offset vs cs) (rw some at e)

  pub cut_sound : (cut_checked_of limit ds offset vs cs).number ≡ number_of accepted → Sound vs cs × FewCuts limit ds offset (runs_from 0 vs (endpoints_of 0 cs))
  cut_sound e = let b = both e in (sound vs cs b.0, few b.1)

-- what counting needs of a path
pub sound_paired : (vs : List ℕ) (cs : List Float) → Sound vs cs → (length cs ≡ 2 * point_count vs) × (length cs < id_limit)
sound_paired vs cs s = (s.paired, omega (arith, s.paired, s.few, count_le vs))

-- what is refused before is refused, whatever comes then
pub refused_first : (r : Refusal) (t : Bool) → verdict_of r ≡ pick (eqb (verdict_of r).number (number_of accepted) && t) (verdict too_many_cuts 0) (verdict_of r)
refused_first OutOfRange t = refl
refused_first TooManyVerbs t = refl
refused_first (Verb i) t = refl
refused_first (Coordinate i) t = refl
refused_first TooManyCuts t = refl
