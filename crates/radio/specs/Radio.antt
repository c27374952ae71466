-- What each call of the radio does to the state and to both lists. Assumes nothing.
use Rattle.std.specs.Prelude.{ℕ, ◌+◌, Bool, true, false, cond, ◌||◌, List, [], ◌∷◌, ◌++◌, ltb, leb, eqb, Float, length}
use Rattle.refusals.specs.Numbers.{number_of, long_text}
use Rattle.form.specs.Bytes.{is_digit}
use Rattle.reader.specs.declared.answer.ReadAnswer.{ReadAnswer}
use Rattle.reader.specs.Answer.{text_limit, with_place, judged_of}
use Rattle.reader.specs.Outcome.{Outcome}
use Rattle.reader.specs.Pass.{set_out, Passed, pass_of}
use Rattle.reader.specs.Read.{end_byte}
use Rattle.radio.specs.declared.Radio.{Radio}
use Rattle.radio.specs.Answer.{closed_answer}

-- the state, and both lists
pub record Tuned : Type 0 where
  pub radio : Radio
  pub verbs : List ℕ
  pub coords : List Float

abbrev pub started : Radio
started = record { passage = set_out; length = 0; closed = false }

abbrev pub passed_of : Tuned → Passed
passed_of w = record { passage = w.radio.passage; verbs = w.verbs; coords = w.coords }

-- behind so many bytes
abbrev pub tuned : Passed → ℕ → Tuned
tuned p n = record { radio = record { passage = p.passage; length = n; closed = false }; verbs = p.verbs; coords = p.coords }

-- a state that no calls lead to counts as closed
abbrev pub is_open : Radio → Bool
is_open r = cond r.closed false (cond (ltb (text_limit + 1) r.length) false (leb r.passage.place r.length))

-- Of the byte at the limit only the number before it counts, "what ended before .. the text limit": one that goes on with no number is taken for white space.
abbrev pub at_limit : ℕ → ℕ
at_limit b = cond (is_digit b || eqb b 46) b 32

-- a byte behind the limit adds nothing
abbrev pub past_limit : Tuned → ℕ → Tuned
past_limit w b = cond (ltb text_limit w.radio.length) w (tuned (pass_of (passed_of w) (at_limit b ∷ [])) (w.radio.length + 1))

unfoldable pub byte_heard : Tuned → ℕ → Tuned
byte_heard w b = cond (ltb w.radio.length text_limit) (tuned (pass_of (passed_of w) (b ∷ [])) (w.radio.length + 1)) (past_limit w b)

-- the bytes of a fragment in turn
abbrev pub heard_of : Tuned → List ℕ → Tuned
heard_of w [] = w
heard_of w (b ∷ bs) = heard_of (byte_heard w b) bs

-- a fragment: "25, a call after the closing one with no new start, changes nothing"
pub record Took : Type 0 where
  pub radio : Radio
  pub taken : Bool
  pub verbs : List ℕ
  pub coords : List Float

abbrev pub took_by : Bool → Tuned → Took
took_by t w = record { radio = w.radio; taken = t; verbs = w.verbs; coords = w.coords }

abbrev pub took_of : Tuned → List ℕ → Took
took_of w fragment = cond (is_open w.radio) (took_by true (heard_of w fragment)) (took_by false w)

-- the end of the text: "8 to 11 as they stand, at the closing call"
abbrev pub judged_by : Passed → Outcome
judged_by p = record { answer = judged_of p.passage (length p.verbs) (length p.coords); verbs = p.verbs; coords = p.coords }

abbrev pub ended_of : Tuned → Outcome
ended_of w =
    cond (ltb text_limit w.radio.length) (record { answer = with_place (number_of long_text) 0; verbs = w.verbs; coords = w.coords })
    (judged_by (pass_of (passed_of w) (end_byte ∷ [])))

abbrev pub closed_by : Radio → Radio
closed_by r = record { passage = r.passage; length = r.length; closed = true }

pub record Closed : Type 0 where
  pub radio : Radio
  pub answer : ReadAnswer
  pub verbs : List ℕ
  pub coords : List Float

abbrev pub closed_with : Radio → Outcome → Closed
closed_with r o = record { radio = r; answer = o.answer; verbs = o.verbs; coords = o.coords }

abbrev pub close_of : Tuned → Closed
close_of w =
    cond (is_open w.radio) (closed_with (closed_by w.radio) (ended_of w))
    (closed_with w.radio (record { answer = closed_answer; verbs = w.verbs; coords = w.coords }))

-- A text in fragments, from a new start on, with the lists that are lent to each call.
abbrev pub started_with : List ℕ → List Float → Tuned
started_with v c = record { radio = started; verbs = v; coords = c }

abbrev pub behind_take : Took → Tuned
behind_take t = record { radio = t.radio; verbs = t.verbs; coords = t.coords }

abbrev pub takes_of : Tuned → List (List ℕ) → Tuned
takes_of w [] = w
takes_of w (f ∷ fs) = takes_of (behind_take (took_of w f)) fs

-- the whole text
abbrev pub joined : List (List ℕ) → List ℕ
joined [] = []
joined (f ∷ fs) = f ++ joined fs

abbrev pub outcome_in : Closed → Outcome
outcome_in k = record { answer = k.answer; verbs = k.verbs; coords = k.coords }
