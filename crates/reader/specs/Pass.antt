-- What a pass over bytes leaves: how far the text has come, and both lists. Assumes nothing.
use Rattle.std.specs.Prelude.{ℕ, ◌+◌, Bool, true, false, cond, List, [], ◌∷◌, Float}
use Rattle.form.specs.Machine.{is_lost}
use Rattle.lists.specs.Over.{put_at}
use Rattle.values.specs.declared.events.Event.{Event}
use Rattle.values.specs.declared.state.Called.{Called}
use Rattle.values.specs.declared.state.State.{State}
use Rattle.values.specs.State.{started, called_of, step_of}
use Rattle.reader.specs.declared.counts.Counts.{Counts}
use Rattle.reader.specs.declared.pass.Passage.{Passage}
use Rattle.reader.specs.Counts.{verb_of, coords_at, no_counts, added_of}

-- what was counted, and both lists
pub record Sheet : Type 0 where
  pub counts : Counts
  pub verbs : List ℕ
  pub coords : List Float

-- an event put behind what was counted, as far as the lists go, and counted
abbrev pub event_put : Sheet → Event → Sheet
event_put h e = record { counts = added_of h.counts e; verbs = put_at h.counts.verbs (verb_of e) h.verbs; coords = put_at h.counts.coords (coords_at e) h.coords }

-- what a byte calls for: by the number that ends before it, then by its letter, but for one that is out of form
abbrev pub called_put : Sheet → Called → Bool → Sheet
called_put h k true = event_put h k.number
called_put h k false = event_put (event_put h k.number) k.letter

abbrev pub set_out : Passage
set_out = record { state = started; counts = no_counts; place = 0 }

-- no text of the form begins so
abbrev pub is_over : Passage → Bool
is_over p = is_lost p.state.mode

pub record Passed : Type 0 where
  pub passage : Passage
  pub verbs : List ℕ
  pub coords : List Float

abbrev pub sheet_of : Passed → Sheet
sheet_of w = record { counts = w.passage.counts; verbs = w.verbs; coords = w.coords }

-- one byte more, which leads to the state t
abbrev pub stepped_to : Passed → State → Called → Passed
stepped_to w t k =
    let lost = is_lost t.mode in
    let h = called_put (sheet_of w) k lost in
    let i = w.passage.place in
    record { passage = record { state = t; counts = h.counts; place = cond lost i (i + 1) }; verbs = h.verbs; coords = h.coords }

unfoldable pub stepped : Passed → ℕ → Passed
stepped w b =
    let s = w.passage.state in
    let i = w.passage.place in
    stepped_to w (step_of s b i) (called_of s b i (i + 1))

-- bytes in turn, up to one that is out of form
abbrev pub pass_of : Passed → List ℕ → Passed
pass_of w [] = w
pass_of w (b ∷ bs) = pass_of (cond (is_over w.passage) w (stepped w b)) bs
