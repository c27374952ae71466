-- Each call by what its functions gave. Assumes nothing.
use Prim.Native.Nat.{ℕ}
use mathlib.Core.Path.{◌≡◌, sym, ap, ◌∙◌}
use mathlib.Core.Bool.{Bool, true, false, cond}
use mathlib.Core.List.{List}
use lib.Dec.{eqb}
use lib.Ieee.{Float}
use Rattle.lists.specs.Over.{over}
use Rattle.refusals.specs.Numbers.{number_of, accepted, after_close}
use Rattle.reader.specs.declared.answer.ReadAnswer.{ReadAnswer}
use Rattle.radio.specs.declared.Radio.{Radio}
use Rattle.radio.specs.Radio.{Took, Closed, started, closed_by, took_of}
use Rattle.radio.specs.Radio as radio
use Rattle.radio_words.specs.Words.{words_of, radio_in, begins_with, held_in}
use Rattle.radio_words.specs.Calls.{Taken, taken_by, take_of, Ended, ended_by, close_of}

-- the state that words are
module _ (w : List ℕ) (r : Radio) (ws : List ℕ) (b : Bool) (er : r ≡ radio_in w) (es : ws ≡ words_of r) (eb : b ≡ begins_with ws w) where
  held_by : held_in w ≡ cond b r (closed_by r)
  held_by =
      ap (λ x. cond (begins_with (words_of x) w) x (closed_by x)) (sym er)
      ∙ ap (λ x. cond (begins_with x w) r (closed_by r)) (sym es)
      ∙ ap (λ x. cond x r (closed_by r)) (sym eb)

  pub held_state : b ≡ true → r ≡ held_in w
  held_state e = sym (held_by ∙ ap (λ x. cond x r (closed_by r)) e)

  pub held_none : (q : Radio) → b ≡ false → q ≡ closed_by r → q ≡ held_in w
  held_none q e eq = eq ∙ sym (held_by ∙ ap (λ x. cond x r (closed_by r)) e)

-- a fragment
module _ (w f v : List ℕ) (c : List Float) (h : Radio) (t : Took) (eh : h ≡ held_in w) (et : t ≡ took_of (record { radio = h; verbs = v; coords = c }) f) where
  taken_is : take_of w f v c ≡ taken_by w t
  unfolding take_of
  taken_is = ap (λ x. taken_by w (took_of (record { radio = x; verbs = v; coords = c }) f)) (sym eh) ∙ ap (λ x. taken_by w x) (sym et)

  abbrev by : Bool → Taken
  by b = record { number = cond b (number_of accepted) (number_of after_close); state = cond b (over (words_of t.radio) w) w; verbs = t.verbs; coords = t.coords }

  pub take_on : (ws q : List ℕ) → t.taken ≡ true → ws ≡ words_of t.radio → q ≡ over ws w → record { number = number_of accepted; state = q; verbs = t.verbs; coords = t.coords } ≡ take_of w f v c
  take_on ws q e es eq =
      ap (λ x. record { number = number_of accepted; state = x; verbs = t.verbs; coords = t.coords }) (eq ∙ ap (λ x. over x w) es)
      ∙ sym (taken_is ∙ ap by e)

  pub take_not : t.taken ≡ false → record { number = number_of after_close; state = w; verbs = t.verbs; coords = t.coords } ≡ take_of w f v c
  take_not e = sym (taken_is ∙ ap by e)

-- a close
module _ (w v : List ℕ) (c : List Float) (h : Radio) (k : Closed) (a : ReadAnswer) (eh : h ≡ held_in w) (ek : k ≡ radio.close_of (record { radio = h; verbs = v; coords = c })) (ea : a ≡ k.answer) where
  closed_is : close_of w v c ≡ ended_by w k
  unfolding close_of
  closed_is = ap (λ x. ended_by w (radio.close_of (record { radio = x; verbs = v; coords = c }))) (sym eh) ∙ ap (λ x. ended_by w x) (sym ek)

  abbrev ended : ReadAnswer → Bool → Ended
  ended x b = record { answer = x; state = cond b w (over (words_of k.radio) w); verbs = k.verbs; coords = k.coords }

  answered : (b : Bool) → eqb a.number (number_of after_close) ≡ b → close_of w v c ≡ ended a b
  answered b e = closed_is ∙ ap (λ (x : ReadAnswer). ended x (eqb x.number (number_of after_close))) (sym ea) ∙ ap (λ x. ended a x) e

  pub close_on : (ws q : List ℕ) → eqb a.number (number_of after_close) ≡ false → ws ≡ words_of k.radio → q ≡ over ws w → record { answer = a; state = q; verbs = k.verbs; coords = k.coords } ≡ close_of w v c
  close_on ws q n es eq =
      ap (λ x. record { answer = a; state = x; verbs = k.verbs; coords = k.coords }) (eq ∙ ap (λ x. over x w) es)
      ∙ sym (answered false n)
