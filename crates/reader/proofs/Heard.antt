-- What bytes call for, up to one that is out of form; and that a pass over them puts this. Assumes nothing.
use Prim.Native.Nat.{ℕ, suc, ◌+◌, ◌-◌, ◌*◌, ◌≤◌}
use mathlib.Core.Path.{◌≡◌, refl, sym, ap, ◌∙◌}
use mathlib.Core.Bool.{Bool, true, false, cond}
use mathlib.Core.List.{List, [], ◌∷◌, ◌++◌}
use native.Mathlib.Omega.{arith}
use lib.ListN.{length}
use Rattle.form.specs.declared.classes.Class.TheVariants.{Command}
use Rattle.form.specs.declared.classes.Letter.TheVariants.{Move}
use Rattle.form.specs.declared.machine.Mode.{Mode}
use Rattle.form.specs.Bytes.{class_of}
use Rattle.form.specs.Machine.{next_of, final, is_lost, stop}
use Rattle.form.proofs.Taken.{never}
use Rattle.form.proofs.Place.{lost_final}
use Rattle.values.specs.declared.events.Event.{Event}
use Rattle.values.specs.declared.events.Event.TheVariants.{Nothing, Begin, Line, EndOpen, EndClosed, Beyond}
use Rattle.values.specs.declared.state.Called.{Called}
use Rattle.values.specs.declared.state.State.{State}
use Rattle.values.specs.Events.{put}
use Rattle.values.specs.State.{called_by, called_of, step_of, in_turn, events_from}
use Rattle.reader.specs.Counts.{verbs_of, coords_of}
use Rattle.reader.specs.Pass.{Sheet, event_put, called_put, is_over, Passed, sheet_of, stepped, pass_of}
use Rattle.reader.specs.Read.{end_byte}
use Rattle.reader.proofs.Adding.{Counted, counted_put, put_all, all_put}
use Rattle.reader.proofs.Passing.{pass_over, pass_on}

abbrev pub heard_by : Called → Bool → List Event → List Event
heard_by k true es = put k.number []
heard_by k false es = in_turn k es

-- of the bytes from the place i on
abbrev pub heard_from : ℕ → State → List ℕ → List Event
heard_from i s [] = []
heard_from i s (b ∷ bs) = heard_by (called_of s b i (i + 1)) (is_lost (next_of s.mode (class_of b))) (heard_from (i + 1) (step_of s b i) bs)

-- where a pass ends, and what it has put
pub record Through (w : Passed) (bs : List ℕ) : Type 0 where
  pub sheet : sheet_of (pass_of w bs) ≡ put_all (sheet_of w) (heard_from w.passage.place w.passage.state bs)
  pub place : (pass_of w bs).passage.place ≡ w.passage.place + stop w.passage.state.mode bs
  pub over : is_over (pass_of w bs).passage ≡ is_lost (final w.passage.state.mode bs)

module _ (w : Passed) (b : ℕ) where
  abbrev i : ℕ
  i = w.passage.place

  abbrev next : State
  next = step_of w.passage.state b i

  abbrev called : Called
  called = called_of w.passage.state b i (i + 1)

  stepped_as : Bool → Passed
  stepped_as l =
      let h = called_put (sheet_of w) called l in
      record { passage = record { state = next; counts = h.counts; place = cond l i (i + 1) }; verbs = h.verbs; coords = h.coords }

  stepped_as_lem : (l : Bool) → is_lost next.mode ≡ l → stepped w b ≡ stepped_as l
  unfolding stepped stepped_as
  stepped_as_lem l e = ap stepped_as e

module _ (w : Passed) (b : ℕ) (bs : List ℕ) where
  abbrev h : Sheet
  h = sheet_of w

  abbrev rest : List Event
  rest = heard_from (i w b + 1) (next w b) bs

  abbrev m : Mode
  m = (next w b).mode

  through_lost : is_over w.passage ≡ false → Counted h → is_lost m ≡ true → Through w (b ∷ bs)
  unfolding stepped_as stop
  through_lost e g q =
      let k = called w b in
      let x = pass_on w b bs e ∙ ap (λ y. pass_of y bs) (stepped_as_lem w b true q) ∙ pass_over (stepped_as w b true) bs q in
      record {
        sheet = ap sheet_of x ∙ sym (ap (λ l. put_all h (heard_by k l rest)) q ∙ all_put h k.number [] g);
        place = ap (λ (y : Passed). y.passage.place) x ∙ sym (ap (λ l. i w b + cond l 0 (suc (stop m bs))) q ∙ (let z : i w b + 0 ≡ i w b = omega arith in z));
        over = ap (λ (y : Passed). is_over y.passage) x ∙ q ∙ sym (lost_final m bs q);
      }

  through_on : is_over w.passage ≡ false → Counted h → is_lost m ≡ false → Through (stepped_as w b false) bs → Through w (b ∷ bs)
  unfolding stepped_as stop
  through_on e g q r =
      let k = called w b in
      let x = pass_on w b bs e ∙ ap (λ y. pass_of y bs) (stepped_as_lem w b false q) in
      record {
        sheet =
            ap sheet_of x ∙ r.sheet
            ∙ sym (ap (λ l. put_all h (heard_by k l rest)) q ∙ all_put h k.number (put k.letter rest) g ∙ all_put (event_put h k.number) k.letter rest (counted_put h k.number));
        place =
            ap (λ (y : Passed). y.passage.place) x ∙ r.place
            ∙ sym (ap (λ l. i w b + cond l 0 (suc (stop m bs))) q ∙ (let z : i w b + suc (stop m bs) ≡ i w b + 1 + stop m bs = omega arith in z));
        over = ap (λ (y : Passed). is_over y.passage) x ∙ r.over;
      }

pub through : (bs : List ℕ) (w : Passed) → is_over w.passage ≡ false → Counted (sheet_of w) → Through w bs
unfolding stop stepped_as
through [] w e g = record { sheet = refl; place = omega arith; over = refl }
through (b ∷ bs) w e g = go (is_lost (next w b).mode) refl (λ q. through bs (stepped_as w b false) q (counted_put (event_put (sheet_of w) (called w b).number) (called w b).letter))
  where
    go : (l : Bool) → is_lost (next w b).mode ≡ l → (is_lost (next w b).mode ≡ false → Through (stepped_as w b false) bs) → Through w (b ∷ bs)
    go true q f = through_lost w b bs e g q
    go false q f = through_on w b bs e g q (f q)

-- a text that ends in the form: what its bytes and its end call for
pub heard_formed : (i : ℕ) (s : State) (bs : List ℕ) → is_lost (final s.mode (bs ++ (end_byte ∷ []))) ≡ false → heard_from i s (bs ++ (end_byte ∷ [])) ≡ events_from (i + length bs) s bs
unfolding class_of
heard_formed i s [] e =
    ap (λ l. heard_by (called_of s end_byte i (i + 1)) l []) e
    ∙ ap (λ n. in_turn (called_by s (Command Move) n (n + 1)) []) (let z : i ≡ i + 0 = omega arith in z)
heard_formed i s (b ∷ bs) e =
    let n = i + length (b ∷ bs) in
    let m = next_of s.mode (class_of b) in
    let p : n - length (b ∷ bs) ≡ i = omega arith in
    let p2 : n - length bs ≡ i + 1 = omega arith in
    let p3 : i + 1 + length bs ≡ n = omega arith in
    let k = called_of s b i (i + 1) in
    ap (λ l. heard_by k l (heard_from (i + 1) (step_of s b i) (bs ++ (end_byte ∷ [])))) (on (is_lost m) refl)
    ∙ ap (λ es. in_turn k es) (heard_formed (i + 1) (step_of s b i) bs e ∙ ap (λ j. events_from j (step_of s b i) bs) p3)
    ∙ sym (ap (λ j. in_turn (called_of s b j (n - length bs)) (events_from n (step_of s b j) bs)) p ∙ ap (λ j. in_turn (called_of s b i j) (events_from n (step_of s b i) bs)) p2)
  where
    on : (l : Bool) → is_lost (next_of s.mode (class_of b)) ≡ l → is_lost (next_of s.mode (class_of b)) ≡ false
    on true q = absurd (never (sym e ∙ lost_final (next_of s.mode (class_of b)) (bs ++ (end_byte ∷ [])) q))
    on false q = q

-- no byte calls for more than two events
few_put : (e : Event) (es : List Event) → (length (verbs_of (put e es)) ≤ 1 + length (verbs_of es)) × (length (coords_of (put e es)) ≤ 2 + length (coords_of es))
few_put Nothing es = omega arith
few_put (Begin x y i) es = omega arith
few_put (Line x y i) es = omega arith
few_put (EndOpen i) es = omega arith
few_put (EndClosed i) es = omega arith
few_put (Beyond i) es = omega arith

pub few_heard : (i : ℕ) (s : State) (bs : List ℕ) → (length (verbs_of (heard_from i s bs)) ≤ 2 * length bs) × (length (coords_of (heard_from i s bs)) ≤ 4 * length bs)
few_heard i s [] = omega arith
few_heard i s (b ∷ bs) = go (is_lost (next_of s.mode (class_of b))) (few_heard (i + 1) (step_of s b i) bs)
  where
    go : (l : Bool) → (length (verbs_of (heard_from (i + 1) (step_of s b i) bs)) ≤ 2 * length bs) × (length (coords_of (heard_from (i + 1) (step_of s b i) bs)) ≤ 4 * length bs)
        → (length (verbs_of (heard_by (called_of s b i (i + 1)) l (heard_from (i + 1) (step_of s b i) bs))) ≤ 2 * length (b ∷ bs))
        × (length (coords_of (heard_by (called_of s b i (i + 1)) l (heard_from (i + 1) (step_of s b i) bs))) ≤ 4 * length (b ∷ bs))
    go true f = omega (arith, few_put (called_of s b i (i + 1)).number [])
    go false f =
        let k = called_of s b i (i + 1) in
        let rest = heard_from (i + 1) (step_of s b i) bs in
        omega (arith, few_put k.number (put k.letter rest), few_put k.letter rest, f)
