-- However a text is divided into fragments, the outcome is that of the whole text: the answer always (`whole_answer`), and the lists where the path is
-- accepted (`whole_path`). Assumes nothing.
use Prim.Native.Nat.{ℕ, suc, ◌+◌, ◌≤◌, ◌<◌, min}
use mathlib.Core.Path.{◌≡◌, refl, sym, ap, ◌∙◌, subst}
use mathlib.Core.Bool.{Bool, true, false, cond}
use mathlib.Core.List.{List, [], ◌∷◌}
use native.Mathlib.Omega.{arith}
use native.Mathlib.Decide.{dec_le}
use borrow.Author.Tests.{lt-ltb, le-ltb}
use lib.Ieee.{Float}
use lib.ListN.{length}
use Rattle.refusals.specs.Numbers.{number_of, long_text}
use Rattle.form.specs.Machine.{is_lost}
use Rattle.form.proofs.Taken.{never}
use Rattle.values.specs.declared.state.Called.{Called}
use Rattle.values.specs.State.{called_of, step_of}
use Rattle.reader.specs.declared.answer.ReadAnswer.{ReadAnswer}
use Rattle.reader.specs.declared.counts.Counts.{Counts}
use Rattle.reader.specs.declared.pass.Passage.{Passage}
use Rattle.reader.specs.Answer.{text_limit, with_place, is_path, judged_of}
use Rattle.reader.specs.Counts.{added_of}
use Rattle.reader.specs.Outcome.{Outcome, refused}
use Rattle.reader.specs.Pass.{Sheet, called_put, is_over, Passed, sheet_of, stepped, pass_of}
use Rattle.reader.specs.Read.{end_byte, starting, through_of, outcome_of}
use Rattle.reader.proofs.Meets.{long_so, short_so}
use Rattle.reader.proofs.Passing.{stepped_verbs, stepped_coords, pass_place}
use Rattle.radio.specs.Radio.{Tuned, passed_of, tuned, at_limit, byte_heard, heard_of, took_by, judged_by, ended_of, closed_by, closed_with, close_of, started_with, behind_take, takes_of, joined, outcome_in}
use Rattle.radio.specs.Answer.{closed_answer}
use Rattle.radio.proofs.Fragment.{Open, open_is, one, inside, reached, past, at_limit_lem, heard_append}

-- ---- what a pass finds does not depend on the lists
called_counts : Counts → Called → Bool → Counts
called_counts n k true = added_of n k.number
called_counts n k false = added_of (added_of n k.number) k.letter

called_is : (h : Sheet) (k : Called) (t : Bool) → (called_put h k t).counts ≡ called_counts h.counts k t
unfolding called_counts
called_is h k true = refl
called_is h k false = refl

stepped_passage : Passage → ℕ → Passage
stepped_passage p b =
    let i = p.place in
    let t = step_of p.state b i in
    let l = is_lost t.mode in
    record { state = t; counts = called_counts p.counts (called_of p.state b i (i + 1)) l; place = cond l i (i + 1) }

stepped_is : (w : Passed) (b : ℕ) → (stepped w b).passage ≡ stepped_passage w.passage b
unfolding stepped stepped_passage
stepped_is w b =
    let p = w.passage in
    let i = p.place in
    let t = step_of p.state b i in
    let l = is_lost t.mode in
    ap (λ (n : Counts). record { state = t; counts = n; place = cond l i (i + 1) }) (called_is (sheet_of w) (called_of p.state b i (i + 1)) l)

next_passage : Passage → ℕ → Passage
next_passage p b = cond (is_over p) p (stepped_passage p b)

next_is : (w : Passed) (b : ℕ) → (cond (is_over w.passage) w (stepped w b)).passage ≡ next_passage w.passage b
unfolding next_passage
next_is w b = go (is_over w.passage)
  where
    go : (t : Bool) → (cond t w (stepped w b)).passage ≡ cond t w.passage (stepped_passage w.passage b)
    go true = refl
    go false = stepped_is w b

blind : (bs : List ℕ) (w u : Passed) → w.passage ≡ u.passage → (pass_of w bs).passage ≡ (pass_of u bs).passage
blind [] w u e = e
blind (b ∷ bs) w u e =
    blind bs (cond (is_over w.passage) w (stepped w b)) (cond (is_over u.passage) u (stepped u b)) (next_is w b ∙ ap (λ p. next_passage p b) e ∙ sym (next_is u b))

pass_verbs : (bs : List ℕ) (w : Passed) → length (pass_of w bs).verbs ≡ length w.verbs
pass_verbs [] w = refl
pass_verbs (b ∷ bs) w = pass_verbs bs (cond (is_over w.passage) w (stepped w b)) ∙ go (is_over w.passage)
  where
    go : (t : Bool) → length (cond t w (stepped w b)).verbs ≡ length w.verbs
    go true = refl
    go false = stepped_verbs w b

pass_coords : (bs : List ℕ) (w : Passed) → length (pass_of w bs).coords ≡ length w.coords
pass_coords [] w = refl
pass_coords (b ∷ bs) w = pass_coords bs (cond (is_over w.passage) w (stepped w b)) ∙ go (is_over w.passage)
  where
    go : (t : Bool) → length (cond t w (stepped w b)).coords ≡ length w.coords
    go true = refl
    go false = stepped_coords w b

-- ---- a state stays open
tuned_open : (w : Tuned) (p : Passed) → Open w.radio → w.radio.length ≤ text_limit → p.passage.place ≤ w.radio.passage.place + 1 → Open (tuned p (w.radio.length + 1)).radio
tuned_open w p o h l = record { running = refl; within = omega arith; placed = omega (arith, o.placed) }

open_byte : (w : Tuned) (b : ℕ) → Open w.radio → Open (byte_heard w b).radio
open_byte w b o = go (dec_le (suc w.radio.length) text_limit) (dec_le w.radio.length text_limit)
  where
    go : Dec (w.radio.length < text_limit) → Dec (w.radio.length ≤ text_limit) → Open (byte_heard w b).radio
    go (yes h) l =
        subst (λ (x : Tuned). Open x.radio) (sym (one w b h)) (tuned_open w (pass_of (passed_of w) (b ∷ [])) o (omega arith) (omega (arith, pass_place (passed_of w) (b ∷ []))))
    go (no h) (yes l) =
        subst (λ (x : Tuned). Open x.radio) (sym (reached w b (omega arith) ∙ at_limit_lem w b l))
        (tuned_open w (pass_of (passed_of w) (at_limit b ∷ [])) o l (omega (arith, pass_place (passed_of w) (at_limit b ∷ []))))
    go (no h) (no l) = subst (λ (x : Tuned). Open x.radio) (sym (reached w b (omega arith) ∙ past w b (omega arith))) o

pub open_heard : (bs : List ℕ) (w : Tuned) → Open w.radio → Open (heard_of w bs).radio
open_heard [] w o = o
open_heard (b ∷ bs) w o = open_heard bs (byte_heard w b) (open_byte w b o)

-- ---- fragments in turn are the whole text
pub division : (fs : List (List ℕ)) (w : Tuned) → Open w.radio → takes_of w fs ≡ heard_of w (joined fs)
division [] w o = refl
division (f ∷ fs) w o =
    ap (λ t. takes_of (behind_take (cond t (took_by true (heard_of w f)) (took_by false w))) fs) (open_is w.radio o)
    ∙ division fs (heard_of w f) (open_heard f w o)
    ∙ sym (heard_append w f (joined fs))

-- how many bytes are counted
length_byte : (w : Tuned) (b : ℕ) → w.radio.length ≤ suc text_limit → (byte_heard w b).radio.length ≡ min (w.radio.length + 1) (suc text_limit)
length_byte w b m = go (dec_le (suc w.radio.length) text_limit) (dec_le w.radio.length text_limit)
  where
    go : Dec (w.radio.length < text_limit) → Dec (w.radio.length ≤ text_limit) → (byte_heard w b).radio.length ≡ min (w.radio.length + 1) (suc text_limit)
    go (yes h) l = ap (λ (x : Tuned). x.radio.length) (one w b h) ∙ (let z : w.radio.length + 1 ≡ min (w.radio.length + 1) (suc text_limit) = omega arith in z)
    go (no h) (yes l) =
        ap (λ (x : Tuned). x.radio.length) (reached w b (omega arith) ∙ at_limit_lem w b l) ∙ (let z : w.radio.length + 1 ≡ min (w.radio.length + 1) (suc text_limit) = omega arith in z)
    go (no h) (no l) =
        ap (λ (x : Tuned). x.radio.length) (reached w b (omega arith) ∙ past w b (omega arith)) ∙ (let z : w.radio.length ≡ min (w.radio.length + 1) (suc text_limit) = omega arith in z)

length_heard : (bs : List ℕ) (w : Tuned) → w.radio.length ≤ suc text_limit → (heard_of w bs).radio.length ≡ min (w.radio.length + length bs) (suc text_limit)
length_heard [] w m = let z : w.radio.length ≡ min (w.radio.length + 0) (suc text_limit) = omega arith in z
length_heard (b ∷ bs) w m =
    let e = length_byte w b m in
    length_heard bs (byte_heard w b) (omega arith) ∙ (let z : min ((byte_heard w b).radio.length + length bs) (suc text_limit) ≡ min (w.radio.length + length (b ∷ bs)) (suc text_limit) = omega arith in z)

-- ---- the closing call
module _ (v : List ℕ) (c : List Float) where
  pub fresh : Open (started_with v c).radio
  fresh = record { running = refl; within = omega arith; placed = omega arith }

  module _ (s : List ℕ) where
    abbrev w : Tuned
    w = heard_of (started_with v c) s

    pub closed_so : outcome_in (close_of w) ≡ ended_of w
    closed_so =
        ap (λ t. outcome_in (cond t (closed_with (closed_by w.radio) (ended_of w)) (closed_with w.radio (record { answer = closed_answer; verbs = w.verbs; coords = w.coords }))))
        (open_is w.radio (open_heard s (started_with v c) fresh))

    pub long_ended : text_limit < length s → ended_of w ≡ record { answer = with_place (number_of long_text) 0; verbs = w.verbs; coords = w.coords }
    long_ended h =
        let n = length_heard s (started_with v c) (omega arith) in
        ap (λ t. cond t (record { answer = with_place (number_of long_text) 0; verbs = w.verbs; coords = w.coords }) (judged_by (pass_of (passed_of w) (end_byte ∷ []))))
        (lt-ltb text_limit w.radio.length (omega arith))

    pub short_ended : length s ≤ text_limit → ended_of w ≡ judged_by (through_of v c s)
    unfolding through_of
    short_ended h =
        let n = length_heard s (started_with v c) (omega arith) in
        ap (λ t. cond t (record { answer = with_place (number_of long_text) 0; verbs = w.verbs; coords = w.coords }) (judged_by (pass_of (passed_of w) (end_byte ∷ []))))
        (le-ltb text_limit w.radio.length (omega arith))
        ∙ ap (λ x. judged_by (pass_of (passed_of x) (end_byte ∷ []))) (inside s (started_with v c) refl (omega arith))

    same_passage : (through_of v c s).passage ≡ (through_of [] [] s).passage
    unfolding through_of
    same_passage = blind (end_byte ∷ []) (pass_of (starting v c) s) (pass_of (starting [] []) s) (blind s (starting v c) (starting [] []) refl)

    same_verbs : length (through_of v c s).verbs ≡ length v
    unfolding through_of
    same_verbs = pass_verbs (end_byte ∷ []) (pass_of (starting v c) s) ∙ pass_verbs s (starting v c)

    same_coords : length (through_of v c s).coords ≡ length c
    unfolding through_of
    same_coords = pass_coords (end_byte ∷ []) (pass_of (starting v c) s) ∙ pass_coords s (starting v c)

    abbrev answer : ReadAnswer
    answer = judged_of (through_of [] [] s).passage (length v) (length c)

    pub judged_so : judged_by (through_of v c s) ≡ record { answer = answer; verbs = (through_of v c s).verbs; coords = (through_of v c s).coords }
    judged_so =
        let k = through_of v c s in
        let by : ReadAnswer → Outcome = λ a. record { answer = a; verbs = k.verbs; coords = k.coords } in
        ap (λ p. by (judged_of p (length k.verbs) (length k.coords))) same_passage
        ∙ ap (λ n. by (judged_of (through_of [] [] s).passage n (length k.coords))) same_verbs
        ∙ ap (λ n. by (judged_of (through_of [] [] s).passage (length v) n)) same_coords

    pub answer_short : length s ≤ text_limit → (outcome_in (close_of w)).answer ≡ (outcome_of s v c).answer
    answer_short h =
        ap (λ (o : Outcome). o.answer) (closed_so ∙ short_ended h ∙ judged_so) ∙ sym (ap (λ (o : Outcome). o.answer) (short_so s v c h) ∙ go (is_path answer))
      where
        go : (t : Bool) → (cond t (record { answer = answer; verbs = (through_of v c s).verbs; coords = (through_of v c s).coords }) (refused v c answer)).answer ≡ answer
        go true = refl
        go false = refl

    answer_long : text_limit < length s → (outcome_in (close_of w)).answer ≡ (outcome_of s v c).answer
    answer_long h = ap (λ (o : Outcome). o.answer) (closed_so ∙ long_ended h) ∙ sym (ap (λ (o : Outcome). o.answer) (long_so s v c h))

    answer_so : (outcome_in (close_of w)).answer ≡ (outcome_of s v c).answer
    answer_so = go (dec_le (length s) text_limit)
      where
        go : Dec (length s ≤ text_limit) → (outcome_in (close_of w)).answer ≡ (outcome_of s v c).answer
        go (yes h) = answer_short h
        go (no h) = answer_long (omega arith)

    path_so : is_path (outcome_of s v c).answer ≡ true → outcome_in (close_of w) ≡ outcome_of s v c
    path_so e = go (dec_le (length s) text_limit)
      where
        shorter : length s ≤ text_limit → outcome_in (close_of w) ≡ outcome_of s v c
        shorter h =
            let a = sym (ap (λ (o : Outcome). o.answer) (closed_so ∙ short_ended h ∙ judged_so)) ∙ answer_short h in
            closed_so ∙ short_ended h ∙ judged_so
            ∙ sym (short_so s v c h ∙ ap (λ t. cond t (record { answer = answer; verbs = (through_of v c s).verbs; coords = (through_of v c s).coords }) (refused v c answer)) (ap is_path a ∙ e))

        go : Dec (length s ≤ text_limit) → outcome_in (close_of w) ≡ outcome_of s v c
        go (yes h) = shorter h
        go (no h) = absurd (never (ap (λ (o : Outcome). is_path o.answer) (sym (long_so s v c (omega arith))) ∙ e))

  -- "However the text is divided, verbs, coordinates, refusal number and place are those of the whole text at once."
  pub whole_answer : (fs : List (List ℕ)) → (close_of (takes_of (started_with v c) fs)).answer ≡ (outcome_of (joined fs) v c).answer
  whole_answer fs = ap (λ x. (close_of x).answer) (division fs (started_with v c) fresh) ∙ answer_so (joined fs)

  pub whole_path : (fs : List (List ℕ)) → is_path (outcome_of (joined fs) v c).answer ≡ true → outcome_in (close_of (takes_of (started_with v c) fs)) ≡ outcome_of (joined fs) v c
  whole_path fs e = ap (λ x. outcome_in (close_of x)) (division fs (started_with v c) fresh) ∙ path_so (joined fs) e

  -- the lists too, whatever the answer: two divisions of one text leave the same
  pub same_division : (fs gs : List (List ℕ)) → joined fs ≡ joined gs → close_of (takes_of (started_with v c) fs) ≡ close_of (takes_of (started_with v c) gs)
  same_division fs gs e =
      ap (λ x. close_of x) (division fs (started_with v c) fresh ∙ ap (λ s. heard_of (started_with v c) s) e ∙ sym (division gs (started_with v c) fresh))
