-- What the reader answers, and both lists whole, for every text and all lists: refusals 8 to 11 and 0, each exactly then. That no more than one outcome
-- is allowed is proofs/Meets.antt. Assumes nothing.
use Rattle.std.specs.Prelude.{ℕ, ◌≤◌, ◌<◌, ◌≡◌, Bool, true, false, List, Float, length, Option, Some, None}
use Rattle.refusals.specs.Numbers.{number_of, long_text, malformed_text, large_number, reader_room}
use Rattle.form.specs.Form.{Text, text, Wrong}
use Rattle.values.specs.Meaning.{events_of}
use Rattle.reader.specs.Answer.{text_limit, with_counts, with_place, is_crowded}
use Rattle.reader.specs.Counts.{verbs_of, coords_of, first_large}
use Rattle.reader.specs.Outcome.{Outcome, refused, written}

-- the verbs and the coordinates of a text, and the first byte of its first number "beyond 32,768 in size"
abbrev pub verbs_in : Text → List ℕ
verbs_in t = verbs_of (events_of (length (text t)) t)

abbrev pub coords_in : Text → List Float
coords_in t = coords_of (events_of (length (text t)) t)

abbrev pub large_in : Text → Option ℕ
large_in t = first_large (events_of (length (text t)) t)

-- "reader's lent verb or coordinate list too short, or over 4,096 verbs", since W-205 65,536
abbrev pub crowded : List ℕ → List Float → Text → Bool
crowded v c t = is_crowded (length (verbs_in t)) (length (coords_in t)) (length v) (length c)

-- the bytes s are the text t, and not too many
pub record TextIs (s : List ℕ) (t : Text) : Type 0 where
  pub short : length s ≤ text_limit
  pub spelt : text t ≡ s

-- the bytes s, and the lent lists v and c
pub data Reads (s v : List ℕ) (c : List Float) : Outcome → Type 0 where
  too_long : text_limit < length s → Reads s v c (refused v c (with_place (number_of long_text) 0))
  out_of_form : {p : ℕ} → length s ≤ text_limit → Wrong s p → Reads s v c (refused v c (with_place (number_of malformed_text) p))
  too_large : {p : ℕ} (t : Text) → TextIs s t → large_in t ≡ Some p → Reads s v c (refused v c (with_place (number_of large_number) p))
  no_room : (t : Text) → TextIs s t → large_in t ≡ None → crowded v c t ≡ true → Reads s v c (refused v c (with_place (number_of reader_room) 0))
  path : (t : Text) → TextIs s t → large_in t ≡ None → crowded v c t ≡ false
      → Reads s v c (written v c (with_counts (length (verbs_in t)) (length (coords_in t))) (verbs_in t) (coords_in t))
