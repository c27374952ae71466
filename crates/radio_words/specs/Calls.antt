-- What each call does to the words of a state and to both lists: what the radio's call does to the state that they are. Assumes nothing.
use Rattle.std.specs.Prelude.{ℕ, cond, List, ltb, eqb, Float, length, Result, Ok, Err}
use Rattle.lists.specs.Over.{over}
use Rattle.refusals.specs.Numbers.{number_of, accepted, after_close}
use Rattle.reader.specs.declared.answer.ReadAnswer.{ReadAnswer}
use Rattle.radio.specs.declared.AfterClose.{AfterClose}
use Rattle.radio.specs.Radio.{Tuned, Took, Closed, started, took_of}
use Rattle.radio.specs.Radio as radio
use Rattle.radio_words.specs.Words.{words_of, held_in}

-- how many words a state is
abbrev pub word_count : ℕ
word_count = 21

-- "25, a call after the closing one", of a start and of a fragment
abbrev pub call_number : {A : Type 0} → Result A AfterClose → ℕ
call_number (Ok x) = number_of accepted
call_number (Err e) = number_of after_close

pub record Started : Type 0 where
  pub number : ℕ
  pub state : List ℕ

-- a new text, where there is room for its state
unfoldable pub start_of : List ℕ → Started
start_of w = cond (ltb (length w) word_count) (record { number = number_of after_close; state = w }) (record { number = number_of accepted; state = over (words_of started) w })

-- the words w, and both lists
abbrev pub tuned_by : List ℕ → List ℕ → List Float → Tuned
tuned_by w v c = record { radio = held_in w; verbs = v; coords = c }

pub record Taken : Type 0 where
  pub number : ℕ
  pub state : List ℕ
  pub verbs : List ℕ
  pub coords : List Float

-- "25, a call after the closing one with no new start, changes nothing"
abbrev pub taken_by : List ℕ → Took → Taken
taken_by w t =
    record {
      number = cond t.taken (number_of accepted) (number_of after_close);
      state = cond t.taken (over (words_of t.radio) w) w;
      verbs = t.verbs;
      coords = t.coords;
    }

unfoldable pub take_of : List ℕ → List ℕ → List ℕ → List Float → Taken
take_of w fragment v c = taken_by w (took_of (tuned_by w v c) fragment)

pub record Ended : Type 0 where
  pub answer : ReadAnswer
  pub state : List ℕ
  pub verbs : List ℕ
  pub coords : List Float

abbrev pub ended_by : List ℕ → Closed → Ended
ended_by w k =
    record {
      answer = k.answer;
      state = cond (eqb k.answer.number (number_of after_close)) w (over (words_of k.radio) w);
      verbs = k.verbs;
      coords = k.coords;
    }

unfoldable pub close_of : List ℕ → List ℕ → List Float → Ended
close_of w v c = ended_by w (radio.close_of (tuned_by w v c))
