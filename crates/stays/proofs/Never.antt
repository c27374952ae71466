-- What specs/Stays.antt says, of whole runs: each point of a dash is the run's first, a corner or a cut, and all of these are inside. Assumes nothing.
use mathlib.Core.Path.{◌≡◌}
use mathlib.Core.Bool.{Bool, true, false, ◌&&◌, cond}
use mathlib.Core.List.{List, [], ◌∷◌, ◌++◌}
use native.Mathlib.Omega.{arith}
use lib.Dec.{T, leb}
use lib.Ieee.{Float}
use lib.Ieee.Bits.{is_true}
use lib.Ieee.Fits.{and_l, and_r}
use lib.ListN.{length}
use Rattle.endpoint.specs.declared.Endpoint.{Endpoint}
use Rattle.lists.specs.All.{All}
use Rattle.lists.proofs.All.{all_append}
use Rattle.dashes.specs.Pattern.{length_limit, offset_in, lengths_in, pattern_in, is_dash, worn_of, first_cut}
use Rattle.dashes.specs.Marks.{marks_of}
use Rattle.dashes.specs.declared.spot.Mark.{Mark}
use Rattle.dashes.specs.declared.spot.Mark.TheVariants.{Cut, Corner}
use Rattle.dashes.specs.Dashes.{dashes_from, dashes_of}
use Rattle.stays.specs.Stays.{Inside, Stays, Wears}
use Rattle.stays.proofs.Wearing.{told, worn_ends}
use Rattle.stays.proofs.Running.{AllIn, run_inside}

-- an accepted pattern
module _ (ds : List Float) (o : Float) (e : pattern_in ds o ≡ true) where
  both_in : T (leb (length ds) length_limit && offset_in o)
  unfolding pattern_in
  both_in = and_l (leb (length ds) length_limit && offset_in o) (lengths_in ds) (told (pattern_in ds o) e)

  pub lengths_in_lem : lengths_in ds ≡ true
  unfolding pattern_in
  lengths_in_lem = is_true (lengths_in ds) (and_r (leb (length ds) length_limit && offset_in o) (lengths_in ds) (told (pattern_in ds o) e))

  pub offset_in_lem : offset_in o ≡ true
  offset_in_lem = is_true (offset_in o) (and_r (leb (length ds) length_limit) (offset_in o) both_in)

pub wears : Wears
wears ds o e some = (worn_ends ds (lengths_in_lem ds o e) some o (offset_in_lem ds o e)).stops

dashes_in : (on : Bool) (ps : List Endpoint) (ms : List Mark) → All Inside ps → AllIn ms → All (All Inside) (dashes_from on ps ms)
unfolding dashes_from
dashes_in true ps [] a m = (a, tt)
dashes_in true ps (Corner p ∷ ms) a m = dashes_in true (ps ++ p ∷ []) ms (all_append Inside ps (p ∷ []) a (m.0, tt)) m.1
dashes_in true ps (Cut p ∷ ms) a m = (all_append Inside ps (p ∷ []) a (m.0, tt), dashes_in false [] ms tt m.1)
dashes_in false ps [] a m = tt
dashes_in false ps (Corner p ∷ ms) a m = dashes_in false [] ms tt m.1
dashes_in false ps (Cut p ∷ ms) a m = dashes_in true (p ∷ []) ms (m.0, tt) m.1

pub stays : Stays
unfolding dashes_of
stays ds o e some closed [] M q = tt
stays ds o e some closed (p0 ∷ ps) M q = go (is_dash ds (first_cut ds (worn_of ds o)).index)
  where
    ms : List Mark
    ms = marks_of closed ds (first_cut ds (worn_of ds o)) (p0 ∷ ps)

    in_all : AllIn ms
    in_all = run_inside ds (lengths_in_lem ds o e) some o (offset_in_lem ds o e) closed (p0 ∷ ps) (omega arith) q

    go : (on : Bool) → All (All Inside) (cond on (dashes_from true (p0 ∷ []) ms) (dashes_from false [] ms))
    go true = dashes_in true (p0 ∷ []) ms (q.0, tt) in_all
    go false = dashes_in false [] ms tt in_all
