-- A state as words, and back. Assumes nothing.
use Rattle.std.specs.Prelude.{ℕ, Bool, true, false, cond, ◌&&◌, List, [], ◌∷◌, eqb, get_or}
use Rattle.std.specs.Float.{binary32}
use Rattle.std.specs.Float.Ieee.{to_bits}
use Rattle.form.specs.declared.machine.Mode.{Mode}
use Rattle.values.specs.declared.known.Known.{Known}
use Rattle.values.specs.declared.pen.Pen.{Pen}
use Rattle.values.specs.declared.state.State.{State}
use Rattle.reader.specs.declared.counts.Counts.{Counts}
use Rattle.radio.specs.declared.Radio.{Radio}
use Rattle.radio.specs.Radio.{closed_by}
use Rattle.radio_words.specs.Fields.{stage_word, stage_at, axis_word, axis_at, flag_word, flag_at, below, float_at, found_word, found_place, found_at}

-- one to a field, in this order
abbrev pub words_of : Radio → List ℕ
words_of r =
    let p = r.passage in
    let m = p.state.mode in
    let v = p.state.known in
    let n = v.pen in
    let c = p.counts in
    stage_word m.stage ∷ axis_word m.axis ∷ m.places
    ∷ flag_word n.fresh ∷ flag_word n.relative ∷ flag_word n.upright
    ∷ to_bits binary32 n.x ∷ to_bits binary32 n.y ∷ to_bits binary32 n.first_x ∷ to_bits binary32 n.first_y
    ∷ flag_word v.minus ∷ v.whole ∷ v.fraction ∷ v.place
    ∷ c.verbs ∷ c.coords ∷ found_word c.large ∷ found_place c.large
    ∷ p.place ∷ r.length ∷ flag_word r.closed ∷ []

abbrev pub mode_in : List ℕ → Mode
mode_in w = record { stage = stage_at (get_or w 0 0); axis = axis_at (get_or w 1 0); places = below 256 (get_or w 2 0) }

abbrev pub pen_in : List ℕ → Pen
pen_in w =
    record {
      fresh = flag_at (get_or w 3 0);
      relative = flag_at (get_or w 4 0);
      upright = flag_at (get_or w 5 0);
      x = float_at (get_or w 6 0);
      y = float_at (get_or w 7 0);
      first_x = float_at (get_or w 8 0);
      first_y = float_at (get_or w 9 0);
    }

abbrev pub known_in : List ℕ → Known
known_in w = record { pen = pen_in w; minus = flag_at (get_or w 10 0); whole = below 65536 (get_or w 11 0); fraction = below 4294967296 (get_or w 12 0); place = get_or w 13 0 }

abbrev pub state_in : List ℕ → State
state_in w = record { mode = mode_in w; known = known_in w }

abbrev pub counts_in : List ℕ → Counts
counts_in w = record { verbs = get_or w 14 0; coords = get_or w 15 0; large = found_at (get_or w 16 0) (get_or w 17 0) }

abbrev pub radio_in : List ℕ → Radio
radio_in w = record { passage = record { state = state_in w; counts = counts_in w; place = get_or w 18 0 }; length = get_or w 19 0; closed = flag_at (get_or w 20 0) }

abbrev pub begins_with : List ℕ → List ℕ → Bool
begins_with [] ws = true
begins_with (x ∷ xs) [] = false
begins_with (x ∷ xs) (w ∷ ws) = eqb x w && begins_with xs ws

-- Words that are no state's count as closed: a state's list begins with the words of the state that it is read as
abbrev pub held_in : List ℕ → Radio
held_in w = cond (begins_with (words_of (radio_in w)) w) (radio_in w) (closed_by (radio_in w))
