-- What the closing call of the radio leaves as it is exported; the other two are those of radio_words. Assumes nothing.
use Rattle.std.specs.Prelude.{ℕ, cond, List, [], ◌∷◌, eqb, Float}
use Rattle.lists.specs.Over.{over}
use Rattle.refusals.specs.Numbers.{number_of, after_close}
use Rattle.radio_words.specs.Calls.{Ended, close_of}

pub record CloseOut : Type 0 where
  pub number : ℕ
  pub answer : List ℕ
  pub state : List ℕ
  pub verbs : List ℕ
  pub coords : List Float

-- "place", then "both counts (verbs and coordinates in the reader)"; 25 "changes nothing"
abbrev pub closed_out : Ended → List ℕ → CloseOut
closed_out e answer =
    let a = e.answer in
    record {
      number = a.number;
      answer = cond (eqb a.number (number_of after_close)) answer (over (a.place ∷ a.verbs ∷ a.coords ∷ []) answer);
      state = e.state;
      verbs = e.verbs;
      coords = e.coords;
    }

unfoldable pub close_out_of : List ℕ → List ℕ → List Float → List ℕ → CloseOut
close_out_of state verbs coords answer = closed_out (close_of state verbs coords) answer
