-- However a text is divided, the calls come to what `Hears` allows (`hears`), and to nothing else (`hears_only`): number, place, counts and both lists whole.
-- Lists of at most 2^64 - 1 places, which every slice is. Assumes nothing.
use Prim.Native.Nat.{ℕ, suc, ◌+◌, ◌≤◌, ◌<◌}
use mathlib.Core.Path.{◌≡◌, refl, sym, ap, ◌∙◌, subst}
use mathlib.Core.Bool.{Bool, true, false}
use mathlib.Core.List.{List, [], ◌∷◌, ◌++◌, append_assoc}
use native.Mathlib.Omega.{arith}
use native.Mathlib.Decide.{dec_le}
use lib.Ieee.{Float}
use lib.ListN.{length, take, drop, get_or, length-append, take-append-drop}
use lib.Seq.{split_at, length-take-le, take-take}
use Rattle.refusals.specs.Numbers.{number_of, long_text}
use Rattle.lists.specs.Over.{over}
use Rattle.lists.proofs.Laws.{put_start}
use Rattle.form.specs.Form.{Text, Wrong}
use Rattle.form.specs.Machine.{start, final, is_lost, may_end, stop}
use Rattle.form.proofs.Taken.{never}
use Rattle.form.proofs.Parse.{taken_form}
use Rattle.form.proofs.Place.{begins_when, wrong_at}
use Rattle.values.specs.declared.events.Event.{Event}
use Rattle.values.specs.declared.events.Event.TheVariants.{Nothing, Begin, Line, EndOpen, EndClosed, Beyond}
use Rattle.values.specs.State.{started}
use Rattle.reader.specs.declared.answer.ReadAnswer.{ReadAnswer}
use Rattle.std.specs.Prelude.{None}
use Rattle.reader.specs.Answer.{text_limit, with_place}
use Rattle.reader.specs.Counts.{verbs_of, coords_of, first_large, all_places}
use Rattle.reader.specs.Outcome.{Outcome}
use Rattle.reader.specs.Pass.{Sheet, sheet_of, pass_of}
use Rattle.reader.specs.Read.{end_byte, starting, outcome_of}
use Rattle.reader.specs.Reads.{TextIs, Reads}
use Rattle.reader.specs.Reads as reads
use Rattle.reader.proofs.Adding.{sound_of, held_all}
use Rattle.reader.proofs.Heard.{heard_from, through, few_heard}
use Rattle.reader.proofs.Meets.{with_end, through_is, meets, only}
use Rattle.reader.proofs.Passing.{pass_append}
use Rattle.radio.specs.Radio.{Tuned, tuned, at_limit, heard_of, close_of, started_with, takes_of, joined, outcome_in}
use Rattle.radio.specs.Hears.{events_in, held_at, holding, Hears, too_long, too_long_wrong, out_of_form, too_large, no_room, path}
use Rattle.radio.proofs.Fragment.{inside, across, at_limit_lem, heard_append}
use Rattle.radio.proofs.Division.{division, fresh, closed_so, long_ended, short_ended, judged_so, answer_short}
use Rattle.radio.proofs.Held.{alive, events_heard, cut_at, limit_held, large_held, begun, wrong_alive, short_wrong, long_wrong}

-- the events before the first number that is too large are no more than all, and all where there is none
sound_few : (es : List Event) → (length (verbs_of (sound_of es)) ≤ length (verbs_of es)) × (length (coords_of (sound_of es)) ≤ length (coords_of es))
sound_few [] = omega arith
sound_few (Nothing ∷ es) = sound_few es
sound_few (Begin x y i ∷ es) = omega (arith, sound_few es)
sound_few (Line x y i ∷ es) = omega (arith, sound_few es)
sound_few (EndOpen i ∷ es) = omega (arith, sound_few es)
sound_few (EndClosed i ∷ es) = omega (arith, sound_few es)
sound_few (Beyond i ∷ es) = omega arith

sound_same : (es : List Event) → first_large es ≡ None → sound_of es ≡ es
sound_same [] n = refl
sound_same (Nothing ∷ es) n = ap (λ l. Nothing ∷ l) (sound_same es n)
sound_same (Begin x y i ∷ es) n = ap (λ l. Begin x y i ∷ l) (sound_same es n)
sound_same (Line x y i ∷ es) n = ap (λ l. Line x y i ∷ l) (sound_same es n)
sound_same (EndOpen i ∷ es) n = ap (λ l. EndOpen i ∷ l) (sound_same es n)
sound_same (EndClosed i ∷ es) n = ap (λ l. EndClosed i ∷ l) (sound_same es n)
sound_same (Beyond i ∷ es) n = cc

-- a text that is lost so far has a 9 there or before
lost_whole : (n : ℕ) (s : List ℕ) → is_lost (final start (take n s)) ≡ true → may_end (final start s) ≡ false
lost_whole n s e = go (may_end (final start s)) refl
  where
    go : (b : Bool) → may_end (final start s) ≡ b → b ≡ false
    go true q =
        let f = taken_form s q in
        absurd (never (sym (alive (take n s) (drop n s) (f.0, f.1 ∙ sym (take-append-drop n s))) ∙ e))
    go false q = refl

wrong_before : (n p : ℕ) (s : List ℕ) → Wrong s p → is_lost (final start (take (suc n) s)) ≡ true → p ≤ n
wrong_before n p s w e = go (dec_le p n)
  where
    go : Dec (p ≤ n) → p ≤ n
    go (yes h) = h
    go (no h) =
        let u = take (suc n) s in
        let x = drop (suc n) (take p s) in
        let r = w.begins.0 in
        let f = w.begins.1 in
        let split : take p s ++ r ≡ u ++ (x ++ r) =
        ap (λ (l : List ℕ). l ++ r) (sym (take-append-drop (suc n) (take p s)) ∙ ap (λ (l : List ℕ). l ++ x) (take-take (suc n) p s (omega arith))) ∙ append_assoc u x r in
        absurd (never (sym (alive u (x ++ r) (f.0, f.1 ∙ split)) ∙ e))

module _ (v : List ℕ) (c : List Float) (fits-v : length v ≤ all_places) (fits_c : length c ≤ all_places) where
  -- what a pass over bytes puts into both lists
  abbrev sound_in : List ℕ → List Event
  sound_in bs = sound_of (heard_from 0 started bs)

  lists_hold : (bs : List ℕ) → length bs ≤ suc text_limit → ((pass_of (starting v c) bs).verbs ≡ over (verbs_of (sound_in bs)) v) × ((pass_of (starting v c) bs).coords ≡ over (coords_of (sound_in bs)) c)
  lists_hold bs h =
      let sheet = (through bs (starting v c) refl (record { verbs = omega arith; coords = omega arith })).sheet in
      let es = heard_from 0 started bs in
      let f = few_heard 0 started bs in
      let g = sound_few es in
      let k = held_all (sheet_of (starting v c)) es (omega (arith, f, g)) (omega (arith, f, g)) fits-v fits_c in
      (ap (λ (x : Sheet). x.verbs) sheet ∙ k.0 ∙ put_start (verbs_of (sound_in bs)) v, ap (λ (x : Sheet). x.coords) sheet ∙ k.1 ∙ put_start (coords_of (sound_in bs)) c)

  -- a text that is too long is passed up to the limit
  cut_heard : (u : List ℕ) (b : ℕ) (r : List ℕ) → length u ≡ text_limit
      → heard_of (started_with v c) (u ++ b ∷ r) ≡ tuned (pass_of (starting v c) (u ++ (at_limit b ∷ []))) (0 + length u + 1)
  cut_heard u b r n =
      let w = started_with v c in
      let on = tuned (pass_of (starting v c) u) (0 + length u) in
      heard_append w u (b ∷ r)
      ∙ ap (λ x. heard_of x (b ∷ r)) (inside u w refl (omega arith))
      ∙ across on b r (omega arith)
      ∙ at_limit_lem on b (omega arith)
      ∙ ap (λ x. tuned x (0 + length u + 1)) (sym (pass_append (starting v c) u (at_limit b ∷ [])))

  module _ (s : List ℕ) where
    abbrev w : Tuned
    w = heard_of (started_with v c) s

    abbrev closed : Outcome
    closed = outcome_in (close_of w)

    abbrev answer : ReadAnswer
    answer = (outcome_of s v c).answer

    long_is : text_limit < length s → closed ≡ holding s v c (with_place (number_of long_text) 0) (sound_in (cut_at text_limit s))
    long_is h = go (take text_limit s) (get_or s text_limit 0) (drop (suc text_limit) s) (split_at s text_limit 0 h) (length-take-le text_limit s (omega arith))
      where
        go : (u : List ℕ) (b : ℕ) (r : List ℕ) → s ≡ u ++ b ∷ r → length u ≡ text_limit → closed ≡ holding s v c (with_place (number_of long_text) 0) (sound_in (u ++ (at_limit b ∷ [])))
        go u b r e n =
            let so = ap (λ l. heard_of (started_with v c) l) e ∙ cut_heard u b r n in
            let k = lists_hold (u ++ (at_limit b ∷ [])) (omega (arith, length-append u (at_limit b ∷ []))) in
            let x = ap (λ (y : Tuned). y.verbs) so ∙ k.0 in
            let z = ap (λ (y : Tuned). y.coords) so ∙ k.1 in
            let a = with_place (number_of long_text) 0 in
            let put : record { answer = a; verbs = w.verbs; coords = w.coords } ≡ holding s v c a (sound_in (u ++ (at_limit b ∷ []))) = λ j. record { answer = a; verbs = x j; coords = z j } in
            closed_so v c s ∙ long_ended v c s h ∙ put

    short_is : length s ≤ text_limit → closed ≡ holding s v c answer (sound_in (with_end s))
    short_is h =
        let k = lists_hold (with_end s) (omega (arith, length-append s (end_byte ∷ []))) in
        let t = through_is v c s in
        let o = closed_so v c s ∙ short_ended v c s h ∙ judged_so v c s in
        let a = answer_short v c s h in
        let x = ap (λ (y : Outcome). y.verbs) o ∙ ap (λ y. y.verbs) t ∙ k.0 in
        let z = ap (λ (y : Outcome). y.coords) o ∙ ap (λ y. y.coords) t ∙ k.1 in
        λ j. record { answer = a j; verbs = x j; coords = z j }

    -- an outcome, by its answer and the events that its lists hold
    short_hold : (a : ReadAnswer) (es : List Event) → length s ≤ text_limit → a ≡ answer → es ≡ sound_in (with_end s) → holding s v c a es ≡ closed
    short_hold a es h ea ee = ap (λ x. holding s v c x es) ea ∙ ap (λ x. holding s v c answer x) ee ∙ sym (short_is h)

    formed_heard : (t : Text) → TextIs s t → sound_in (with_end s) ≡ sound_of (events_in t)
    formed_heard t is = ap (λ l. sound_in (with_end l)) (sym is.spelt) ∙ ap sound_of (events_heard t)

    told : (o : Outcome) → Reads s v c o → o.answer ≡ answer
    told o r = ap (λ (x : Outcome). x.answer) (only s v c o r)

    -- no other outcome is allowed
    pub heard_only : (o : Outcome) → Hears s v c o → o ≡ closed
    heard_only o (too_long t r h e) = ap (λ es. holding s v c (with_place (number_of long_text) 0) es) (limit_held text_limit s t r h e) ∙ sym (long_is h)
    heard_only o (too_long_wrong {p} t h w n g) = ap (λ es. holding s v c (with_place (number_of long_text) 0) es) (long_wrong text_limit s p t w n h g) ∙ sym (long_is h)
    heard_only o (out_of_form {p} t h w g) = short_hold o.answer (held_at s p t) h (told _ (reads.out_of_form h w)) (short_wrong s p t w g)
    heard_only o (too_large {p} t is f) = short_hold o.answer _ is.short (told _ (reads.too_large t is f)) (large_held t p f ∙ sym (formed_heard t is))
    heard_only o (no_room t is f q) = short_hold o.answer (events_in t) is.short (told _ (reads.no_room t is f q)) (sym (formed_heard t is ∙ sound_same (events_in t) f))
    heard_only o (path t is f q) = short_hold o.answer (events_in t) is.short (told _ (reads.path t is f q)) (sym (formed_heard t is ∙ sound_same (events_in t) f))

    so : (o : Outcome) → Hears s v c o → Hears s v c closed
    so o h = subst (λ x. Hears s v c x) (heard_only o h) h

    long : text_limit < length s → (b : Bool) → is_lost (final start (take (suc text_limit) s)) ≡ b → Hears s v c closed
    long h false e = let f = begins_when (take (suc text_limit) s) e in so _ (too_long f.1.0 f.0 h f.1.1)
    long h true e =
        let w = wrong_at s (lost_whole (suc text_limit) s e) in
        let g = begun s (stop start s) w.within (wrong_alive s (stop start s) w) in
        so _ (too_long_wrong g.0 h w (wrong_before text_limit (stop start s) s w e) g.1)

    from_reads : (o : Outcome) → length s ≤ text_limit → Reads s v c o → Hears s v c closed
    from_reads o h (reads.too_long n) = absurd (omega arith)
    from_reads o h (reads.out_of_form {p} n w) = let g = begun s p w.within (wrong_alive s p w) in so _ (out_of_form g.0 h w g.1)
    from_reads o h (reads.too_large t is f) = so _ (too_large t is f)
    from_reads o h (reads.no_room t is f q) = so _ (no_room t is f q)
    from_reads o h (reads.path t is f q) = so _ (path t is f q)

    pub heard : Hears s v c closed
    heard = go (dec_le (length s) text_limit)
      where
        go : Dec (length s ≤ text_limit) → Hears s v c closed
        go (yes h) = from_reads (outcome_of s v c) h (meets s v c)
        go (no h) = long (omega arith) (is_lost (final start (take (suc text_limit) s))) refl

  abbrev after : List (List ℕ) → Outcome
  after fs = outcome_in (close_of (takes_of (started_with v c) fs))

  divided : (fs : List (List ℕ)) → after fs ≡ closed (joined fs)
  divided fs = ap (λ x. outcome_in (close_of x)) (division fs (started_with v c) (fresh v c))

  -- "after a refused text each lent list holds, as far as it reaches, what ended before ..; other places keep their contents; the counts are zero"
  pub hears : (fs : List (List ℕ)) → Hears (joined fs) v c (after fs)
  hears fs = subst (λ o. Hears (joined fs) v c o) (sym (divided fs)) (heard (joined fs))

  pub hears_only : (fs : List (List ℕ)) (o : Outcome) → Hears (joined fs) v c o → o ≡ after fs
  hears_only fs o h = heard_only (joined fs) o h ∙ sym (divided fs)

  -- any two outcomes that a text allows are the same
  pub one_hearing : (s : List ℕ) (o p : Outcome) → Hears s v c o → Hears s v c p → o ≡ p
  one_hearing s o p a b = heard_only s o a ∙ sym (heard_only s p b)
