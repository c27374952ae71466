-- What a text over the radio comes to at the closing call, and what both lists hold then, as W-212 writes it: by the form of the text, and by which of the
-- events that it calls for ended. That the calls come to this and to nothing else is proofs/Meets.antt. Assumes nothing.
use Rattle.std.specs.Prelude.{ℕ, suc, ◌-◌, ◌≤◌, ◌<◌, min, zero, ◌≡◌, Bool, true, false, cond, ◌&&◌, List, [], ◌∷◌, ◌++◌, leb, Float, length, take, get_or, Option, Some, None}
use Rattle.refusals.specs.Numbers.{number_of, long_text, malformed_text, large_number, reader_room}
use Rattle.form.specs.declared.classes.Class.{Class}
use Rattle.form.specs.declared.classes.Class.TheVariants.{Blank, Comma, Sign, Digit, Dot, Command, Other}
use Rattle.form.specs.Bytes.{class_of}
use Rattle.form.specs.Form.{Text, text, Wrong}
use Rattle.values.specs.declared.events.Event.{Event}
use Rattle.values.specs.declared.events.Event.TheVariants.{Nothing, Begin, Line, EndOpen, EndClosed, Beyond}
use Rattle.values.specs.Meaning.{events_of}
use Rattle.reader.specs.declared.answer.ReadAnswer.{ReadAnswer}
use Rattle.reader.specs.Answer.{text_limit, with_counts, with_place}
use Rattle.reader.specs.Counts.{verbs_of, coords_of}
use Rattle.reader.specs.Outcome.{Outcome, written}
use Rattle.reader.specs.Reads.{verbs_in, coords_in, large_in, crowded, TextIs}

-- what a text calls for
abbrev pub events_in : Text → List Event
events_in t = events_of (length (text t)) t

-- "what ended before" a place: an event has the place behind its last byte, which is that of its last number ("begin and line"), of its letter ("an
-- implied begin"), or of the letter or end of text calling for it ("an end verb")
abbrev pub ended_by : ℕ → Event → Bool
ended_by p Nothing = false
ended_by p (Begin x y i) = leb i p
ended_by p (Line x y i) = leb i p
ended_by p (EndOpen i) = leb i p
ended_by p (EndClosed i) = leb i p
ended_by p (Beyond i) = false

abbrev pub ended_before : ℕ → List Event → List Event
ended_before p [] = []
ended_before p (e ∷ es) = cond (ended_by p e) (e ∷ ended_before p es) (ended_before p es)

-- the first place of a 9 or 10: that of the 9, or of the first number that is too large where that is before it
abbrev pub first_of : ℕ → Option ℕ → ℕ
first_of p None = p
first_of p (Some q) = min p q

-- the class of the byte before a place, and of that at it; Other where there is none
abbrev pub before : List ℕ → ℕ → Class
before s zero = Other
before s (suc i) = class_of (get_or s i 0)

abbrev pub following : List ℕ → ℕ → Class
following s p = class_of (get_or s p 0)

abbrev pub is_figure : Class → Bool
is_figure Blank = false
is_figure Comma = false
is_figure Sign = false
is_figure Digit = true
is_figure Dot = false
is_figure (Command l) = false
is_figure Other = false

abbrev pub goes_on : Class → Bool
goes_on Blank = false
goes_on Comma = false
goes_on Sign = false
goes_on Digit = true
goes_on Dot = true
goes_on (Command l) = false
goes_on Other = false

-- a number whose next digit is the byte of the 9 has not ended there, nor anywhere before
abbrev pub reach : List ℕ → ℕ → ℕ
reach s p = cond (is_figure (before s p) && is_figure (following s p)) (p - 1) p

-- t is a text of the form that begins with the bytes of s before p, and a number that these end with ends there
pub record Begun (s : List ℕ) (p : ℕ) (t : Text) : Type 0 where
  pub rest : List ℕ
  pub spelt : text t ≡ take p s ++ rest
  pub parted : is_figure (before s p) ≡ true → goes_on (following rest 0) ≡ false

-- what ended before the place p of a 9, in a text that begins so
abbrev pub held_at : List ℕ → ℕ → Text → List Event
held_at s p t = ended_before (first_of (reach s p) (large_in t)) (events_in t)

-- what ended before the text limit, in a text that begins with the bytes before it and the one at it
abbrev pub held_within : Text → List Event
held_within t = ended_before (first_of text_limit (large_in t)) (events_in t)

-- the bytes s, and the lists v and c that each call is lent
module _ (s v : List ℕ) (c : List Float) where
  -- "each lent list holds, as far as it reaches, what ended ..; other places keep their contents; the counts are zero"
  abbrev pub holding : ReadAnswer → List Event → Outcome
  holding a es = written v c a (verbs_of es) (coords_of es)

  pub data Hears : Outcome → Type 0 where
    too_long : (t : Text) (r : List ℕ) → text_limit < length s → text t ≡ take (suc text_limit) s ++ r → Hears (holding (with_place (number_of long_text) 0) (held_within t))
    too_long_wrong : {p : ℕ} (t : Text) → text_limit < length s → Wrong s p → p ≤ text_limit → Begun s p t → Hears (holding (with_place (number_of long_text) 0) (held_at s p t))
    out_of_form : {p : ℕ} (t : Text) → length s ≤ text_limit → Wrong s p → Begun s p t → Hears (holding (with_place (number_of malformed_text) p) (held_at s p t))
    too_large : {p : ℕ} (t : Text) → TextIs s t → large_in t ≡ Some p → Hears (holding (with_place (number_of large_number) p) (ended_before p (events_in t)))
    no_room : (t : Text) → TextIs s t → large_in t ≡ None → crowded v c t ≡ true → Hears (holding (with_place (number_of reader_room) 0) (events_in t))
    path : (t : Text) → TextIs s t → large_in t ≡ None → crowded v c t ≡ false → Hears (holding (with_counts (length (verbs_in t)) (length (coords_in t))) (events_in t))
