-- The outcome by the bytes is the one by the form (`meets`, `only`), so that no two outcomes are allowed (`same_outcome`); what is accepted, and what is
-- not refused. Assumes nothing.
use Prim.Native.Nat.{ℕ, suc, ◌+◌, ◌*◌, ◌≤◌, ◌<◌}
use mathlib.Core.Path.{◌≡◌, refl, sym, ap, ◌∙◌, subst}
use mathlib.Core.Bool.{Bool, true, false, cond, not}
use mathlib.Core.List.{List, [], ◌∷◌, ◌++◌}
use native.Mathlib.Omega.{arith}
use native.Mathlib.Decide.{dec_le}
use borrow.Author.Tests.{lt-ltb, le-ltb}
use lib.Ieee.{Float}
use lib.ListN.{length, length-append}
use Rattle.refusals.specs.Numbers.{number_of, long_text, malformed_text, large_number, reader_room}
use Rattle.form.specs.declared.classes.Class.TheVariants.{Command}
use Rattle.form.specs.declared.classes.Letter.TheVariants.{Move}
use Rattle.form.specs.declared.machine.Mode.{Mode}
use Rattle.form.specs.Bytes.{class_of}
use Rattle.form.specs.Form.{Text, text, HasForm}
use Rattle.form.specs.Machine.{start, next_of, final, is_lost, may_end, stop}
use Rattle.form.proofs.Taken.{never}
use Rattle.form.proofs.Parse.{taken_form}
use Rattle.form.proofs.Place.{wrong_at, form_taken}
use Rattle.form.proofs.Unique.{wrong_unique}
use Rattle.lists.proofs.Laws.{put_start}
use Rattle.values.specs.declared.events.Event.{Event}
use Rattle.values.specs.Meaning.{events_of}
use Rattle.values.specs.State.{started, events_from, events_in}
use Rattle.values.proofs.Means.{means}
use Rattle.reader.specs.declared.answer.ReadAnswer.{ReadAnswer}
use Rattle.reader.specs.declared.answer.ReadError.{ReadError}
use Rattle.reader.specs.declared.answer.ReadError.TheVariants.{TooLong, OutOfForm, TooLarge, NoRoom}
use Rattle.reader.specs.declared.counts.Counts.{Counts}
use Rattle.std.specs.Prelude.{Option, Some, None, Err}
use Rattle.reader.specs.declared.pass.Passage.{Passage}
use Rattle.reader.specs.Answer.{text_limit, read_answer_of, with_counts, with_place, is_path, is_crowded, large_or, room_of, counted_of, judged_of}
use Rattle.reader.specs.Counts.{no_counts, verbs_of, coords_of}
use Rattle.reader.specs.Outcome.{Outcome, refused, written}
use Rattle.reader.specs.Pass.{Sheet, is_over, Passed, sheet_of, pass_of}
use Rattle.reader.specs.Read.{end_byte, starting, through_of, read_by, outcome_of}
use Rattle.reader.specs.Reads.{verbs_in, coords_in, large_in, crowded, TextIs, Reads, too_long, out_of_form, too_large, no_room, path}
use Rattle.reader.proofs.Adding.{put_all, large_all, sheet_with, sound_all}
use Rattle.reader.proofs.Heard.{heard_from, Through, through, heard_formed, few_heard}
use Rattle.reader.proofs.Passing.{pass_append}

-- the bytes of a text call for what it means
pub bytes_mean : (s : List ℕ) (t : Text) → text t ≡ s → events_in s ≡ events_of (length (text t)) t
bytes_mean s t e = ap (λ l. events_in l) (sym e) ∙ means (length (text t)) t

-- a refusal is no path
pub not_path : (e : ReadError) → is_path (read_answer_of (Err e)) ≡ false
not_path TooLong = refl
not_path (OutOfForm i) = refl
not_path (TooLarge i) = refl
not_path NoRoom = refl

-- a text with its end
abbrev pub with_end : List ℕ → List ℕ
with_end s = s ++ (end_byte ∷ [])

pub lost_by_end : (m : Mode) (s : List ℕ) → is_lost (final m (with_end s)) ≡ not (may_end (final m s))
unfolding class_of
lost_by_end m [] = go (is_lost (next_of m (Command Move)))
  where
    go : (b : Bool) → b ≡ not (not b)
    go true = refl
    go false = refl
lost_by_end m (b ∷ s) = lost_by_end (next_of m (class_of b)) s

pub stop_by_end : (m : Mode) (s : List ℕ) → is_lost (final m (with_end s)) ≡ true → stop m (with_end s) ≡ stop m s
unfolding stop
stop_by_end m [] e = ap (λ l. cond l 0 1) e
stop_by_end m (b ∷ s) e = ap (λ k. cond (is_lost (next_of m (class_of b))) 0 (suc k)) (stop_by_end (next_of m (class_of b)) s e)

module _ (v : List ℕ) (c : List Float) (s : List ℕ) where
  pub through_end : Through (starting v c) (with_end s)
  through_end = through (with_end s) (starting v c) refl (record { verbs = omega arith; coords = omega arith })

  pub through_is : through_of v c s ≡ pass_of (starting v c) (with_end s)
  unfolding through_of
  through_is = sym (pass_append (starting v c) s (end_byte ∷ []))

  pub over_is : is_over (through_of v c s).passage ≡ not (may_end (final start s))
  over_is = ap (λ (w : Passed). is_over w.passage) through_is ∙ through_end.over ∙ lost_by_end start s

  pub place_is : may_end (final start s) ≡ false → (through_of v c s).passage.place ≡ stop start s
  place_is e =
      ap (λ (w : Passed). w.passage.place) through_is ∙ through_end.place
      ∙ (let z : 0 + stop start (with_end s) ≡ stop start (with_end s) = omega arith in z)
      ∙ stop_by_end start s (lost_by_end start s ∙ ap not e)

abbrev pub blank : List ℕ → List Float → Sheet
blank v c = record { counts = no_counts; verbs = v; coords = c }

-- of a text of the form
module _ (v : List ℕ) (c : List Float) (s : List ℕ) (t : Text) (is : TextIs s t) where
  abbrev events : List Event
  events = events_of (length (text t)) t

  formed_ends : may_end (final start s) ≡ true
  formed_ends = form_taken s (t, is.spelt)

  heard_is : heard_from 0 started (with_end s) ≡ events
  heard_is =
      heard_formed 0 started s (lost_by_end start s ∙ ap not formed_ends)
      ∙ ap (λ n. events_from n started s) (let z : 0 + length s ≡ length s = omega arith in z)
      ∙ bytes_mean s t is.spelt

  sheet_is : sheet_of (through_of v c s) ≡ put_all (blank v c) events
  sheet_is = ap sheet_of (through_is v c s) ∙ (through_end v c s).sheet ∙ ap (λ es. put_all (blank v c) es) heard_is

  pub large_so : (through_of v c s).passage.counts.large ≡ large_in t
  large_so = ap (λ (h : Sheet). h.counts.large) sheet_is ∙ large_all (blank v c) events

  few_events : (length (verbs_in t) ≤ 2 * suc text_limit) × (length (coords_in t) ≤ 4 * suc text_limit)
  few_events =
      let f = subst (λ es. (length (verbs_of es) ≤ 2 * length (with_end s)) × (length (coords_of es) ≤ 4 * length (with_end s))) heard_is (few_heard 0 started (with_end s)) in
      omega (arith, f.0, f.1, length-append s (end_byte ∷ []), is.short)

  pub sound_so : large_in t ≡ None → sheet_of (through_of v c s) ≡ sheet_with (blank v c) events
  sound_so f = sheet_is ∙ sound_all (blank v c) events f (omega (arith, few_events)) (omega (arith, few_events))

module _ (s v : List ℕ) (c : List Float) where
  abbrev outcome : Outcome
  outcome = outcome_of s v c

  abbrev passage : Passage
  passage = (through_of [] [] s).passage

  pub long_so : text_limit < length s → outcome ≡ refused v c (with_place (number_of long_text) 0)
  unfolding outcome_of
  long_so h = ap (λ t. cond t (refused v c (with_place (number_of long_text) 0)) (read_by v c (judged_of passage (length v) (length c)) (through_of v c s))) (lt-ltb text_limit (length s) h)

  pub short_so : length s ≤ text_limit → outcome ≡ read_by v c (judged_of passage (length v) (length c)) (through_of v c s)
  unfolding outcome_of
  short_so h = ap (λ t. cond t (refused v c (with_place (number_of long_text) 0)) (read_by v c (judged_of passage (length v) (length c)) (through_of v c s))) (le-ltb text_limit (length s) h)

  wrong_so : length s ≤ text_limit → may_end (final start s) ≡ false → outcome ≡ refused v c (with_place (number_of malformed_text) (stop start s))
  wrong_so h e =
      let w = through_of v c s in
      short_so h
      ∙ ap (λ b. read_by v c (cond b (with_place (number_of malformed_text) passage.place) (counted_of passage.counts (length v) (length c))) w) (over_is [] [] s ∙ ap not e)
      ∙ ap (λ i. refused v c (with_place (number_of malformed_text) i)) (place_is [] [] s e)

  -- by the text that the bytes are
  module _ (t : Text) (is : TextIs s t) where
    formed_so : outcome ≡ read_by v c (large_or (large_in t) (room_of passage.counts (length v) (length c))) (through_of v c s)
    formed_so =
        let w = through_of v c s in
        short_so is.short
        ∙ ap (λ b. read_by v c (cond b (with_place (number_of malformed_text) passage.place) (counted_of passage.counts (length v) (length c))) w)
        (over_is [] [] s ∙ ap not (form_taken s (t, is.spelt)))
        ∙ ap (λ f. read_by v c (large_or f (room_of passage.counts (length v) (length c))) w) (large_so [] [] s t is)

    too_large_so : (p : ℕ) → large_in t ≡ Some p → outcome ≡ refused v c (with_place (number_of large_number) p)
    too_large_so p f = formed_so ∙ ap (λ x. read_by v c (large_or x (room_of passage.counts (length v) (length c))) (through_of v c s)) f

    abbrev roomed : Bool → ReadAnswer
    roomed b = cond b (with_place (number_of reader_room) 0) (with_counts (length (verbs_in t)) (length (coords_in t)))

    sound_room : large_in t ≡ None → outcome ≡ read_by v c (roomed (crowded v c t)) (through_of v c s)
    sound_room f =
        let w = through_of v c s in
        let k = ap (λ (h : Sheet). h.counts) (sound_so [] [] s t is f) in
        let by : ℕ → ℕ → ReadAnswer = λ n m. cond (is_crowded n m (length v) (length c)) (with_place (number_of reader_room) 0) (with_counts n m) in
        let n : 0 + length (verbs_in t) ≡ length (verbs_in t) = omega arith in
        let m : 0 + length (coords_in t) ≡ length (coords_in t) = omega arith in
        formed_so ∙ ap (λ x. read_by v c (large_or x (room_of passage.counts (length v) (length c))) w) f
        ∙ ap (λ (x : Counts). read_by v c (by x.verbs x.coords) w) k
        ∙ ap (λ x. read_by v c (by x (0 + length (coords_in t))) w) n ∙ ap (λ x. read_by v c (by (length (verbs_in t)) x) w) m

    room_so : large_in t ≡ None → crowded v c t ≡ true → outcome ≡ refused v c (with_place (number_of reader_room) 0)
    room_so f q = sound_room f ∙ ap (λ b. read_by v c (roomed b) (through_of v c s)) q

    path_so : large_in t ≡ None → crowded v c t ≡ false → outcome ≡ written v c (with_counts (length (verbs_in t)) (length (coords_in t))) (verbs_in t) (coords_in t)
    path_so f q =
        let a = with_counts (length (verbs_in t)) (length (coords_in t)) in
        let h = sound_so v c s t is f in
        let x = ap (λ (g : Sheet). g.verbs) h ∙ put_start (verbs_in t) v in
        let y = ap (λ (g : Sheet). g.coords) h ∙ put_start (coords_in t) c in
        let e : record { answer = a; verbs = (through_of v c s).verbs; coords = (through_of v c s).coords } ≡ written v c a (verbs_in t) (coords_in t) = λ j. record { answer = a; verbs = x j; coords = y j } in
        sound_room f ∙ ap (λ b. read_by v c (roomed b) (through_of v c s)) q ∙ e

    formed : (f : Option ℕ) → large_in t ≡ f → (b : Bool) → crowded v c t ≡ b → Reads s v c outcome
    formed (Some p) f b q = subst (λ o. Reads s v c o) (sym (too_large_so p f)) (too_large t is f)
    formed None f true q = subst (λ o. Reads s v c o) (sym (room_so f q)) (no_room t is f q)
    formed None f false q = subst (λ o. Reads s v c o) (sym (path_so f q)) (path t is f q)

  short : length s ≤ text_limit → (b : Bool) → may_end (final start s) ≡ b → Reads s v c outcome
  short h true e =
      let f = taken_form s e in
      formed f.0 (record { short = h; spelt = f.1 }) (large_in f.0) refl (crowded v c f.0) refl
  short h false e = subst (λ o. Reads s v c o) (sym (wrong_so h e)) (out_of_form h (wrong_at s e))

  -- the outcome by the bytes is allowed
  pub meets : Reads s v c (outcome_of s v c)
  meets = go (dec_le (length s) text_limit)
    where
      go : Dec (length s ≤ text_limit) → Reads s v c outcome
      go (yes h) = short h (may_end (final start s)) refl
      go (no h) = subst (λ o. Reads s v c o) (sym (long_so (omega arith))) (too_long (omega arith))

  pub allowed : (o : Outcome) → outcome_of s v c ≡ o → Reads s v c o
  allowed o e = subst (λ o. Reads s v c o) e meets

  -- by what the passes of a call gave
  module _ (p : Passage) (a : ReadAnswer) (h : length s ≤ text_limit) (ep : p ≡ (through_of [] [] s).passage) (ea : a ≡ judged_of p (length v) (length c)) where
    judged_so : outcome ≡ read_by v c a (through_of v c s)
    judged_so = short_so h ∙ ap (λ x. read_by v c x (through_of v c s)) (ap (λ x. judged_of x (length v) (length c)) (sym ep) ∙ sym ea)

    pub read_written : (w : Passed) → is_path a ≡ true → w ≡ through_of v c s → Reads s v c (record { answer = a; verbs = w.verbs; coords = w.coords })
    read_written w e ew =
        allowed (record { answer = a; verbs = w.verbs; coords = w.coords })
        (judged_so ∙ ap (λ b. cond b (record { answer = a; verbs = (through_of v c s).verbs; coords = (through_of v c s).coords }) (refused v c a)) e
        ∙ sym (ap (λ (x : Passed). record { answer = a; verbs = x.verbs; coords = x.coords }) ew))

    pub read_refused : is_path a ≡ false → Reads s v c (refused v c a)
    read_refused e = allowed (refused v c a) (judged_so ∙ ap (λ b. cond b (record { answer = a; verbs = (through_of v c s).verbs; coords = (through_of v c s).coords }) (refused v c a)) e)

  not_ended : (HasForm s → ⊥) → (b : Bool) → may_end (final start s) ≡ b → may_end (final start s) ≡ false
  not_ended n true e = absurd (n (taken_form s e))
  not_ended n false e = e

  -- and no other is
  pub only : (o : Outcome) → Reads s v c o → o ≡ outcome_of s v c
  only o (too_long h) = sym (long_so h)
  only o (out_of_form {p} h w) =
      let e = not_ended w.unformed (may_end (final start s)) refl in
      ap (λ i. refused v c (with_place (number_of malformed_text) i)) (wrong_unique s p (stop start s) w (wrong_at s e)) ∙ sym (wrong_so h e)
  only o (too_large {p} t is f) = sym (too_large_so t is p f)
  only o (no_room t is f q) = sym (room_so t is f q)
  only o (path t is f q) = sym (path_so t is f q)

  -- "any two outcomes allowed by it are proved the same": number, place, counts and both lists
  pub same_outcome : (o p : Outcome) → Reads s v c o → Reads s v c p → o ≡ p
  same_outcome o p a b = only o a ∙ sym (only p b)

  abbrev drawn : Text → Outcome
  drawn t = written v c (with_counts (length (verbs_in t)) (length (coords_in t))) (verbs_in t) (coords_in t)

  -- what is accepted has the form, and is its verbs and coordinates
  pub accepted : (o : Outcome) → Reads s v c o → is_path o.answer ≡ true → (t : Text) × TextIs s t × (o ≡ drawn t)
  accepted o (too_long h) e = absurd (never e)
  accepted o (out_of_form h w) e = absurd (never e)
  accepted o (too_large t is f) e = absurd (never e)
  accepted o (no_room t is f q) e = absurd (never e)
  accepted o (path t is f q) e = (t, is, refl)

  -- what has the form, within the limits, is not refused
  pub not_refused : (o : Outcome) → Reads s v c o → (t : Text) → TextIs s t → large_in t ≡ None → crowded v c t ≡ false → o ≡ drawn t
  not_refused o r t is f q = same_outcome o (drawn t) r (path t is f q)
