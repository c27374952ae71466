-- W-213's pattern: "1 to 16 lengths, each from 1/4 to 32,768, an odd list taken twice over, and an offset from 0 to 32,768." Assumes nothing.
use Rattle.std.specs.Prelude.{ℕ, zero, suc, ◌+◌, ◌%◌, ◌<◌, ◌≡◌, Bool, true, ◌&&◌, cond, List, [], ◌∷◌, ◌++◌, leb, eqb, Float, length, get_or}
use Rattle.std.specs.Float.{nan}
use Rattle.std.specs.Float.Ieee.{le}
use Rattle.plane.specs.F32.{◌⊕◌, ◌⊖◌, f32}
use Rattle.dashes.specs.declared.pattern.Wear.{Wear}
use Rattle.dashes.specs.declared.pattern.Beat.{Beat}

-- 1/4 to 32,768; a NaN is in no range
unfoldable pub length_in : Float → Bool
length_in d = le (f32 0x3e800000) d && le d (f32 0x47000000)

unfoldable pub lengths_in : List Float → Bool
lengths_in [] = true
lengths_in (d ∷ ds) = length_in d && lengths_in ds

unfoldable pub offset_in : Float → Bool
offset_in o = le (f32 0) o && le o (f32 0x47000000)

-- no more lengths are accepted
abbrev pub length_limit : ℕ
length_limit = 16

-- "1 for a bad list" where it is false. "An empty list means no dashes", and its offset has the same range
unfoldable pub pattern_in : List Float → Float → Bool
pattern_in ds o = leb (length ds) length_limit && offset_in o && lengths_in ds

-- "an odd list taken twice over"
unfoldable pub even_of : List Float → List Float
even_of ds = cond (eqb (length ds % 2) 0) ds (ds ++ ds)

-- length number i, the list taken over and over
unfoldable pub length_at : List Float → ℕ → Float
length_at ds i = get_or (even_of ds) (i % length (even_of ds)) nan

-- "as SVG 2's dash array has it": the first, third .. of the list are dashes, and the others gaps
unfoldable pub is_dash : List Float → ℕ → Bool
is_dash ds i = eqb (i % length (even_of ds) % 2) 0

-- so of any list that has a length
pub record Dash (i : ℕ) (r : Bool) : Type 0 where
  pub of : (ds : List Float) → 0 < length ds → r ≡ is_dash ds i

-- "The offset is first worn down by lengths in turn, each taken off while it is not above what remains": length number i is next
unfoldable pub worn_from : ℕ → List Float → ℕ → Float → Wear
worn_from zero ds i rest = record { index = i; rest = rest }
worn_from (suc n) ds i rest = cond (le (length_at ds i) rest) (worn_from n ds (i + 1) (rest ⊖ length_at ds i)) (record { index = i; rest = rest })

-- 32,768 has so many quarters, so no accepted offset is worn down by more lengths (stays' `worn_ends`)
abbrev pub wear_limit : ℕ
wear_limit = 131072

abbrev pub worn_of : List Float → Float → Wear
worn_of ds o = worn_from wear_limit ds 0 o

-- "the first cut stands at what is left of the next length"
unfoldable pub first_cut : List Float → Wear → Beat
first_cut ds w = record { index = w.index; at = length_at ds w.index ⊖ w.rest }

-- "and each later cut is the last plus its length"
unfoldable pub next_cut : List Float → Beat → Beat
next_cut ds b = record { index = b.index + 1; at = b.at ⊕ length_at ds (b.index + 1) }

-- a number of a length is below, for a run has 65,536 cuts at most and the wearing down so many steps
abbrev pub index_limit : ℕ
index_limit = 4294967296
