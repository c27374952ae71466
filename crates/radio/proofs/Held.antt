-- What ended before the place of a 9, before the text limit, or before that of a 10, in every text of the form that begins so: it is what the bytes call for up
-- to there. In this order: the machine along a text, where it stops, each of the three, and that such a text exists. Assumes nothing.
use Prim.Native.Nat.{ℕ, zero, suc, ◌+◌, ◌-◌, ◌≤◌, ◌<◌, min}
use mathlib.Core.Path.{◌≡◌, refl, sym, ap, ◌∙◌, subst}
use mathlib.Core.Bool.{Bool, true, false, cond, not, ◌&&◌, ◌||◌}
use mathlib.Core.List.{List, [], ◌∷◌, ◌++◌, append_assoc, append-nil}
use native.Mathlib.Omega.{arith}
use native.Mathlib.Decide.{dec_le}
use lib.Dec.{eqb}
use lib.ListN.{length, take, drop, get_or, take-append-drop, drop_of_length-le, get_or-eq_default}
use lib.Seq.{take-suc, take-length, drop-cons, length-take-le, take-take, get_or-take}
use Rattle.form.specs.declared.classes.Class.{Class}
use Rattle.form.specs.declared.classes.Class.TheVariants.{Blank, Comma, Sign, Digit, Dot, Command, Other}
use Rattle.form.specs.declared.classes.Letter.TheVariants.{Move}
use Rattle.form.specs.declared.machine.Axis.{Axis}
use Rattle.form.specs.declared.machine.Axis.TheVariants.{X, Y, Alone}
use Rattle.form.specs.declared.machine.Going.{Going}
use Rattle.form.specs.declared.machine.Mode.{Mode}
use Rattle.form.specs.declared.machine.Stage.{Stage}
use Rattle.form.specs.declared.machine.Stage.TheVariants.{Start, Closed, Want, Signed, Whole, Pointed, Fraction, Gap, Lost}
use Rattle.form.specs.Bytes.{is_digit, class_of}
use Rattle.form.specs.Form.{Text, text, HasForm, Wrong}
use Rattle.form.specs.Machine.{start, row_of, ends_here, ends_before, axis_at, is_inside, next_of, final, is_lost, may_end}
use Rattle.form.proofs.Taken.{never, form_ends}
use Rattle.form.proofs.Parse.{taken_form}
use Rattle.form.proofs.Place.{final_append, lost_final, lost_end, begins_when, form_taken}
use Rattle.values.specs.declared.events.Event.{Event}
use Rattle.values.specs.declared.events.Event.TheVariants.{Nothing}
use Rattle.values.specs.declared.state.Called.{Called}
use Rattle.values.specs.declared.state.State.{State}
use Rattle.values.specs.declared.pen.Pen.{Pen}
use Rattle.values.specs.Events.{put, letter_of}
use Rattle.values.specs.State.{started, called_by, called_of, step_of, events_from}
use Rattle.values.proofs.Means.{means}
use Rattle.std.specs.Prelude.{Some}
use Rattle.reader.specs.Read.{end_byte}
use Rattle.reader.specs.Reads.{large_in}
use Rattle.reader.proofs.Adding.{sound_of}
use Rattle.reader.proofs.Heard.{heard_by, heard_from, heard_formed}
use Rattle.reader.proofs.Meets.{with_end, lost_by_end}
use Rattle.radio.specs.Radio.{at_limit}
use Rattle.radio.specs.Hears.{events_in, ended_before, first_of, before, following, is_figure, goes_on, Begun, held_at}
use Rattle.radio.proofs.Limit.{limit_not_on, limit_no_letter}
use Rattle.radio.proofs.Since.{going_of, since, is_letter, ends_here_lem, behind_figure}
use Rattle.radio.proofs.Ends.{number_of, bounded, shared, one_here}

-- ---- the machine along a text
pub alive : (u r : List ℕ) → HasForm (u ++ r) → is_lost (final start u) ≡ false
alive u r f = go (is_lost (final start u)) refl
  where
    go : (t : Bool) → is_lost (final start u) ≡ t → t ≡ false
    go true e = absurd (never (sym (ap may_end (final_append start u r) ∙ lost_end (final (final start u) r) (lost_final (final start u) r e)) ∙ form_taken (u ++ r) f))
    go false e = refl

pub alive_text : (u r : List ℕ) (t : Text) → text t ≡ u ++ r → is_lost (final start u) ≡ false
alive_text u r t e = alive u r (t, e)

final_snoc : (s : List ℕ) (p : ℕ) → p < length s → final start (take (suc p) s) ≡ next_of (final start (take p s)) (following s p)
final_snoc s p h = ap (λ l. final start l) (take-suc s p 0 h) ∙ final_append start (take p s) (get_or s p 0 ∷ [])

pub events_heard : (t : Text) → heard_from 0 started (with_end (text t)) ≡ events_in t
events_heard t =
    heard_formed 0 started (text t) (lost_by_end start (text t) ∙ ap not (form_ends t))
    ∙ ap (λ n. events_from n started (text t)) (let z : 0 + length (text t) ≡ length (text t) = omega arith in z)
    ∙ means (length (text t)) t

heard_begun : (t : Text) (u r : List ℕ) → text t ≡ u ++ r → events_in t ≡ heard_from 0 started (u ++ with_end r)
heard_begun t u r e = sym (events_heard t) ∙ ap (λ l. heard_from 0 started (with_end l)) e ∙ ap (λ l. heard_from 0 started l) (append_assoc u r (end_byte ∷ []))

-- a byte that goes on with no number ends the one before it
parts : (g : Going) (k : Class) → goes_on k ≡ false → ends_before g k ≡ ends_here g
parts g Blank e = refl
parts g Comma e = refl
parts g Sign e = refl
parts g Digit e = absurd (never (sym e))
parts g Dot e = absurd (never (sym e))
parts g (Command l) e = refl
parts g Other e = refl

-- ---- where it stops: of the byte there only the number before it counts
abbrev pub stop_events : ℕ → State → Class → List Event
stop_events i s k = put (number_of s.mode s.known i (ends_before (going_of s.mode) k)) []

-- the bytes m are heard as one of the class k that stops the machine
abbrev Stops : Mode → List ℕ → Class → Type 0
Stops m bs k = (i : ℕ) (s : State) → s.mode ≡ m → heard_from i s bs ≡ stop_events i s k

pub lost_stops : (m : Mode) (b : ℕ) (bs : List ℕ) → is_lost (next_of m (class_of b)) ≡ true → Stops m (b ∷ bs) (class_of b)
lost_stops m b bs e i s q =
    ap (λ l. heard_by (called_by s (class_of b) i (i + 1)) l (heard_from (i + 1) (step_of s b i) bs)) (ap (λ x. is_lost (next_of x (class_of b))) q ∙ e)

still : (c : Called) (l : Bool) → c.letter ≡ Nothing → heard_by c l [] ≡ put c.number []
still c true e = refl
still c false e = ap (λ x. put c.number (put x [])) e

module _ (i : ℕ) (s : State) where
  abbrev alone : Class → List Event
  alone k = heard_by (called_by s k i (i + 1)) (is_lost (next_of s.mode k)) []

  quiet : (k : Class) → is_letter k ≡ false → alone k ≡ stop_events i s k
  quiet Blank e = still (called_by s Blank i (i + 1)) (is_lost (next_of s.mode Blank)) refl
  quiet Comma e = still (called_by s Comma i (i + 1)) (is_lost (next_of s.mode Comma)) refl
  quiet Sign e = still (called_by s Sign i (i + 1)) (is_lost (next_of s.mode Sign)) refl
  quiet Digit e = still (called_by s Digit i (i + 1)) (is_lost (next_of s.mode Digit)) refl
  quiet Dot e = still (called_by s Dot i (i + 1)) (is_lost (next_of s.mode Dot)) refl
  quiet (Command l) e = absurd (never (sym e))
  quiet Other e = refl

  limit_heard : (b : ℕ) (t : Bool) → is_digit b || eqb b 46 ≡ t → heard_from i s (cond t b 32 ∷ []) ≡ stop_events i s (class_of b)
  unfolding class_of
  limit_heard b true e = quiet (class_of b) (limit_no_letter b e)
  limit_heard b false e = quiet Blank refl ∙ ap (λ t. put (number_of s.mode s.known i t) []) (sym (parts (going_of s.mode) (class_of b) (limit_not_on b e)))

pub limit_stops : (m : Mode) (b : ℕ) → Stops m (at_limit b ∷ []) (class_of b)
limit_stops m b i s q = limit_heard i s b (is_digit b || eqb b 46) refl

-- ---- the number before a place, by the byte there
not_here : (g : Going) (k : Class) → ends_here g ≡ false → ends_before g k ≡ false
not_here g k e = go (ends_before g k) refl
  where
    go : (t : Bool) → ends_before g k ≡ t → t ≡ false
    go true q = absurd (never (sym e ∙ ends_here_lem g k q))
    go false q = refl

-- a point behind a number goes on with it or begins another, so that it is not what stops the machine
dot_on : (g : Stage) (a : Axis) (n : ℕ) → ends_here (row_of g).going ≡ true → is_lost (next_of (record { stage = g; axis = a; places = n }) Dot) ≡ false
dot_on Start a n e = absurd (never e)
dot_on Closed a n e = absurd (never e)
dot_on Want a n e = absurd (never e)
dot_on Signed a n e = absurd (never e)
dot_on Whole a n e = refl
dot_on Pointed a n e = absurd (never e)
dot_on Fraction a n e = refl
dot_on Gap a n e = absurd (never e)
dot_on Lost a n e = absurd (never e)

stop_ends : (m : Mode) (k : Class) → ends_here (going_of m) ≡ true → is_figure k ≡ false → is_lost (next_of m k) ≡ true → ends_before (going_of m) k ≡ true
stop_ends m Blank e f l = e
stop_ends m Comma e f l = e
stop_ends m Sign e f l = e
stop_ends m Digit e f l = absurd (never (sym f))
stop_ends m Dot e f l = absurd (never (sym (dot_on m.stage m.axis m.places e) ∙ l))
stop_ends m (Command l) e f q = e
stop_ends m Other e f l = e

figure_on : (g : Going) (k : Class) → is_figure k ≡ true → (ends_before g k ≡ false) × ((inside : Bool) (p : Pen) (i : ℕ) → letter_of inside p k i ≡ Nothing)
figure_on g Blank e = absurd (never e)
figure_on g Comma e = absurd (never e)
figure_on g Sign e = absurd (never e)
figure_on g Digit e = (refl, λ inside p i. refl)
figure_on g Dot e = absurd (never e)
figure_on g (Command l) e = absurd (never e)
figure_on g Other e = absurd (never e)

silent_by : (c : Called) (l : Bool) (es : List Event) → c.number ≡ Nothing → c.letter ≡ Nothing → es ≡ [] → heard_by c l es ≡ []
silent_by c true es n e z = ap (λ x. put x []) n
silent_by c false es n e z = ap (λ x. put x (put c.letter es)) n ∙ ap (λ x. put x es) e ∙ z

-- the byte that follows in a text with its end
end_parts : (r : List ℕ) → goes_on (following r 0) ≡ false → (b : ℕ) × ((bs : List ℕ) × ((with_end r ≡ b ∷ bs) × (goes_on (class_of b) ≡ false)))
unfolding class_of
end_parts [] e = (end_byte, ([], (refl, refl)))
end_parts (b ∷ bs) e = (b, (with_end bs, (refl, e)))

end_cons : (r : List ℕ) → (b : ℕ) × ((bs : List ℕ) × (with_end r ≡ b ∷ bs))
end_cons [] = (end_byte, ([], refl))
end_cons (b ∷ bs) = (b, (with_end bs, refl))

-- ---- the place of a 9
module _ (m : Mode) (r bs : List ℕ) (k : Class) (stops : Stops m bs k) (i : ℕ) (s : State) (q : s.mode ≡ m) (h : since i s ≤ i) where
  -- whatever follows, if the number ends there in both or in neither
  both : (b : ℕ) (cs : List ℕ) → with_end r ≡ b ∷ cs → ends_before (going_of m) (class_of b) ≡ ends_before (going_of m) k → bounded i (heard_from i s (with_end r)) ≡ sound_of (heard_from i s bs)
  both b cs e x =
      ap (λ l. bounded i (heard_from i s l)) e ∙ one_here i s b cs h
      ∙ ap (λ t. sound_of (put (number_of s.mode s.known i t) []))
      (ap (λ y. ends_before (going_of y) (class_of b)) q ∙ x ∙ sym (ap (λ y. ends_before (going_of y) k) q))
      ∙ sym (ap sound_of (stops i s q))

  in_none : ends_here (going_of m) ≡ false → bounded i (heard_from i s (with_end r)) ≡ sound_of (heard_from i s bs)
  in_none e = let c = end_cons r in both c.0 c.1.0 c.1.1 (not_here (going_of m) (class_of c.0) e ∙ sym (not_here (going_of m) k e))

  in_one : ends_before (going_of m) k ≡ true → goes_on (following r 0) ≡ false → bounded i (heard_from i s (with_end r)) ≡ sound_of (heard_from i s bs)
  in_one e g = let c = end_parts r g in both c.0 c.1.0 c.1.1.0 (parts (going_of m) (class_of c.0) c.1.1.1 ∙ ends_here_lem (going_of m) k e ∙ sym e)

module _ (s : List ℕ) (t : Text) (bs : List ℕ) (k : Class) where
  -- behind bytes u, where what is left is by the state there
  along : (u r cs : List ℕ) (p : ℕ) → text t ≡ u ++ r → length u ≡ p
      → ((i : ℕ) (x : State) → i ≡ p → x.mode ≡ final start u → since i x ≤ i → bounded i (heard_from i x (with_end r)) ≡ sound_of (heard_from i x cs))
      → bounded p (events_in t) ≡ sound_of (heard_from 0 started (u ++ cs))
  along u r cs p e n f =
      ap (λ x. bounded p x) (heard_begun t u r e)
      ∙ shared u (with_end r) cs p 0 started (omega arith) (omega arith) (alive_text u r t e)
      (λ i x a q z.
      let b : i ≡ p = omega arith in
      subst (λ j. bounded j (heard_from i x (with_end r)) ≡ sound_of (heard_from i x cs)) b (f i x b q z))

  module _ (p : ℕ) (w : p ≤ length s) (g : Begun s p t) (lost : is_lost (next_of (final start (take p s)) k) ≡ true) (alike : is_figure k ≡ is_figure (following s p)) (stops : Stops (final start (take p s)) bs k) where
    abbrev m : Mode
    m = final start (take p s)

    goes_off : ends_here (going_of m) ≡ false → bounded p (events_in t) ≡ sound_of (heard_from 0 started (take p s ++ bs))
    goes_off e = along (take p s) g.rest bs p g.spelt (length-take-le p s w) (λ i x a q z. in_none m g.rest bs k stops i x q z e)

    goes_one : ends_here (going_of m) ≡ true → is_figure (following s p) ≡ false → goes_on (following g.rest 0) ≡ false → bounded p (events_in t) ≡ sound_of (heard_from 0 started (take p s ++ bs))
    goes_one e f o =
        along (take p s) g.rest bs p g.spelt (length-take-le p s w) (λ i x a q z. in_one m g.rest bs k stops i x q z (stop_ends m k e (alike ∙ f) lost) o)

    -- the 9 is at a digit that the number before it would have had next
    module _ (j : ℕ) (at : p ≡ suc j) (figure : is_figure (following s j) ≡ true) (next : is_figure (following s p) ≡ true) where
      d : ℕ
      d = get_or s j 0

      split : take p s ≡ take j s ++ (d ∷ [])
      unfolding d
      split = ap (λ n. take n s) at ∙ take-suc s j 0 (omega arith)

      joined : (r : List ℕ) → take p s ++ r ≡ take j s ++ (d ∷ r)
      joined r = ap (λ (l : List ℕ). l ++ r) split ∙ append_assoc (take j s) (d ∷ []) r

      silent : (i : ℕ) (x : State) → x.mode ≡ final start (take j s) → heard_from i x (d ∷ bs) ≡ []
      unfolding d
      silent i x q =
          let on = figure_on (going_of x.mode) (class_of d) figure in
          let y = step_of x d i in
          let then : y.mode ≡ m = ap (λ z. next_of z (class_of d)) q ∙ sym (final_append start (take j s) (d ∷ [])) ∙ ap (λ l. final start l) (sym split) in
          let rest : heard_from (i + 1) y bs ≡ [] = stops (i + 1) y then ∙ ap (λ b. put (number_of y.mode y.known (i + 1) b) []) (figure_on (going_of y.mode) k (alike ∙ next)).0 in
          silent_by (called_of x d i (i + 1)) (is_lost (next_of x.mode (class_of d))) (heard_from (i + 1) y bs) (ap (λ b. number_of x.mode x.known i b) on.0)
          (on.1 (is_inside x.mode.stage (axis_at (ends_before (going_of x.mode) (class_of d)) x.mode.axis)) x.known.pen (i + 1)) rest

      pub goes_on_lem : bounded j (events_in t) ≡ sound_of (heard_from 0 started (take p s ++ bs))
      unfolding d
      goes_on_lem =
          along (take j s) (d ∷ g.rest) (d ∷ bs) j (g.spelt ∙ joined g.rest) (length-take-le j s (omega arith))
          (λ i x a q z.
          one_here i x d (with_end g.rest) z
          ∙ ap (λ b. sound_of (put (number_of x.mode x.known i b) [])) (figure_on (going_of x.mode) (class_of d) figure).0
          ∙ sym (ap sound_of (silent i x q)))
          ∙ sym (ap (λ l. sound_of (heard_from 0 started l)) (joined bs))

-- by whether a digit stands before the place, and at it
module _ (s : List ℕ) (t : Text) (bs : List ℕ) (k : Class) where
  abbrev Held : ℕ → Type 0
  Held p = held_at s p t ≡ sound_of (heard_from 0 started (take p s ++ bs))

  abbrev to : ℕ → Bool → Bool → List Event
  to j x y = bounded (cond (x && y) (suc j - 1) (suc j)) (events_in t)

  pub wrong_held : (p : ℕ) → p ≤ length s → Begun s p t → is_lost (next_of (final start (take p s)) k) ≡ true → is_figure k ≡ is_figure (following s p) → Stops (final start (take p s)) bs k → Held p
  wrong_held zero w g lost alike stops = goes_off s t bs k zero w g lost alike stops refl
  wrong_held (suc j) w g lost alike stops = go (is_figure (following s j)) refl (is_figure (following s (suc j))) refl
    where
      ended : ends_here (going_of (final start (take (suc j) s))) ≡ is_figure (following s j)
      ended =
          let e = final_snoc s j w in
          ap (λ m. ends_here (going_of m)) e ∙ behind_figure (final start (take j s)) (following s j) (ap is_lost (sym e) ∙ alive_text (take (suc j) s) g.rest t g.spelt)

      less : suc j - 1 ≡ j
      less = omega arith

      go : (x : Bool) → is_figure (following s j) ≡ x → (y : Bool) → is_figure (following s (suc j)) ≡ y → Held (suc j)
      go true e true f = ap (λ x. to j x (is_figure (following s (suc j)))) e ∙ ap (λ y. to j true y) f ∙ ap (λ n. bounded n (events_in t)) less ∙ goes_on_lem s t bs k (suc j) w g lost alike stops j refl e f
      go true e false f = ap (λ x. to j x (is_figure (following s (suc j)))) e ∙ ap (λ y. to j true y) f ∙ goes_one s t bs k (suc j) w g lost alike stops (ended ∙ e) f (g.parted e)
      go false e y f = ap (λ x. to j x (is_figure (following s (suc j)))) e ∙ goes_off s t bs k (suc j) w g lost alike stops (ended ∙ e)

-- ---- a limit on the text: what is heard of a text that is longer
abbrev pub cut_at : ℕ → List ℕ → List ℕ
cut_at n s = take n s ++ (at_limit (get_or s n 0) ∷ [])

pub limit_held : (n : ℕ) (s : List ℕ) (t : Text) (r : List ℕ) → n < length s → text t ≡ take (suc n) s ++ r
    → ended_before (first_of n (large_in t)) (events_in t) ≡ sound_of (heard_from 0 started (cut_at n s))
limit_held n s t r h e =
    let b = get_or s n 0 in
    let u = take n s in
    let x : text t ≡ u ++ (b ∷ r) = e ∙ ap (λ (l : List ℕ). l ++ r) (take-suc s n 0 h) ∙ append_assoc u (b ∷ []) r in
    along s t [] Other u (b ∷ r) (at_limit b ∷ []) n x (length-take-le n s (omega arith))
    (λ i y a q z. one_here i y b (with_end r) z ∙ sym (ap sound_of (limit_stops (final start u) b i y q)))

-- ---- the place of a 10
pub large_held : (t : Text) (p : ℕ) → large_in t ≡ Some p → ended_before p (events_in t) ≡ sound_of (events_in t)
large_held t p f =
    let u = with_end (text t) in
    let n : ℕ = p + length u in
    let e : heard_from 0 started (u ++ []) ≡ events_in t = ap (λ l. heard_from 0 started l) (append-nil u) ∙ events_heard t in
    let a = shared u [] [] n 0 started (omega arith) (omega arith) (lost_by_end start (text t) ∙ ap not (form_ends t)) (λ i x y q z. refl) in
    let least : min n p ≡ p = omega arith in
    ap (λ k. ended_before k (events_in t)) (sym least) ∙ ap (λ y. ended_before (first_of n y) (events_in t)) (sym f)
    ∙ subst (λ es. bounded n es ≡ sound_of es) e a

-- ---- a text that begins so
comma_zero : Axis → List ℕ
comma_zero X = 44 ∷ 48 ∷ []
comma_zero Y = []
comma_zero Alone = []

completed : (g : Stage) (a : Axis) (n : ℕ) → ends_here (row_of g).going ≡ true → may_end (final (record { stage = g; axis = a; places = n }) (comma_zero a)) ≡ true
unfolding comma_zero class_of
completed Start a n e = absurd (never e)
completed Closed a n e = absurd (never e)
completed Want a n e = absurd (never e)
completed Signed a n e = absurd (never e)
completed Whole X n e = refl
completed Whole Y n e = refl
completed Whole Alone n e = refl
completed Pointed a n e = absurd (never e)
completed Fraction X n e = refl
completed Fraction Y n e = refl
completed Fraction Alone n e = refl
completed Gap a n e = absurd (never e)
completed Lost a n e = absurd (never e)

comma_parts : (a : Axis) → goes_on (following (comma_zero a) 0) ≡ false
unfolding comma_zero class_of
comma_parts X = refl
comma_parts Y = refl
comma_parts Alone = refl

pub begun : (s : List ℕ) (p : ℕ) → p ≤ length s → is_lost (final start (take p s)) ≡ false → (t : Text) × Begun s p t
begun s p w e = go (ends_here (going_of (final start (take p s)))) refl
  where
    ended : (p : ℕ) → p ≤ length s → is_lost (final start (take p s)) ≡ false → is_figure (before s p) ≡ true → ends_here (going_of (final start (take p s))) ≡ true
    ended zero w e f = absurd (never f)
    ended (suc j) w e f =
        let n = final_snoc s j w in
        ap (λ m. ends_here (going_of m)) n ∙ behind_figure (final start (take j s)) (following s j) (ap is_lost (sym n) ∙ e) ∙ f

    go : (x : Bool) → ends_here (going_of (final start (take p s))) ≡ x → (t : Text) × Begun s p t
    go true q =
        let m = final start (take p s) in
        let r = comma_zero m.axis in
        let f = taken_form (take p s ++ r) (ap may_end (final_append start (take p s) r) ∙ completed m.stage m.axis m.places q) in
        (f.0, record { rest = r; spelt = f.1; parted = λ z. comma_parts m.axis })
    go false q =
        let b = begins_when (take p s) e in
        (b.1.0, record { rest = b.0; spelt = b.1.1; parted = λ z. absurd (never (sym q ∙ ended p w e z)) })

-- ---- the byte of a 9 stops the machine
pub wrong_alive : (s : List ℕ) (p : ℕ) → Wrong s p → is_lost (final start (take p s)) ≡ false
wrong_alive s p w = alive (take p s) w.begins.0 w.begins.1

pub wrong_lost : (s : List ℕ) (p : ℕ) → Wrong s p → p < length s → is_lost (next_of (final start (take p s)) (following s p)) ≡ true
wrong_lost s p w h = go (is_lost (final start (take (suc p) s))) refl
  where
    go : (x : Bool) → is_lost (final start (take (suc p) s)) ≡ x → is_lost (next_of (final start (take p s)) (following s p)) ≡ true
    go true e = ap is_lost (sym (final_snoc s p h)) ∙ e
    go false e = absurd (w.ends h (begins_when (take (suc p) s) e))

pub end_lost : (s : List ℕ) → Wrong s (length s) → is_lost (next_of (final start (take (length s) s)) (Command Move)) ≡ true
end_lost s w = ap (λ l. is_lost (next_of (final start l) (Command Move))) (take-length s) ∙ go (is_lost (next_of (final start s) (Command Move))) refl
  where
    go : (x : Bool) → is_lost (next_of (final start s) (Command Move)) ≡ x → x ≡ true
    go true e = refl
    go false e = absurd (w.unformed (taken_form s (ap not e)))

-- ---- what the machine makes of a text with a 9 at p
end_class : class_of end_byte ≡ Command Move
unfolding class_of
end_class = refl

none_figure : is_figure (class_of 0) ≡ false
unfolding class_of
none_figure = refl

-- one that is not too long
pub short_wrong : (s : List ℕ) (p : ℕ) (t : Text) → Wrong s p → Begun s p t → held_at s p t ≡ sound_of (heard_from 0 started (with_end s))
short_wrong s p t w g = go (dec_le (suc p) (length s))
  where
    again : take p s ++ with_end (drop p s) ≡ with_end s
    again = sym (append_assoc (take p s) (drop p s) (end_byte ∷ [])) ∙ ap (λ l. with_end l) (take-append-drop p s)

    inside : p < length s → held_at s p t ≡ sound_of (heard_from 0 started (with_end s))
    inside h =
        let l = wrong_lost s p w h in
        wrong_held s t (with_end (drop p s)) (following s p) p w.within g l refl
        (subst (λ x. Stops (final start (take p s)) (with_end x) (following s p)) (sym (drop-cons s p 0 h)) (lost_stops (final start (take p s)) (get_or s p 0) (with_end (drop (suc p) s)) l))
        ∙ ap (λ x. sound_of (heard_from 0 started x)) again

    at_end : (p : ℕ) → p ≡ length s → Wrong s p → Begun s p t → take p s ++ with_end (drop p s) ≡ with_end s → held_at s p t ≡ sound_of (heard_from 0 started (with_end s))
    at_end p e w g whole =
        let l = end_lost s (subst (λ n. Wrong s n) e w) in
        let n = final start (take p s) in
        let l2 : is_lost (next_of n (Command Move)) ≡ true = subst (λ i. is_lost (next_of (final start (take i s)) (Command Move)) ≡ true) (sym e) l in
        let all : length s ≤ p = omega arith in
        let none : drop p s ≡ [] = drop_of_length-le s all in
        let zero_byte : get_or s p 0 ≡ 0 = get_or-eq_default s 0 all in
        wrong_held s t (with_end (drop p s)) (Command Move) p w.within g l2 (sym (ap (λ b. is_figure (class_of b)) zero_byte ∙ none_figure))
        (subst (λ x. Stops n (with_end x) (Command Move)) (sym none) (subst (λ c. Stops n (end_byte ∷ []) c) end_class (lost_stops n end_byte [] (ap (λ c. is_lost (next_of n c)) end_class ∙ l2))))
        ∙ ap (λ x. sound_of (heard_from 0 started x)) whole

    go : Dec (p < length s) → held_at s p t ≡ sound_of (heard_from 0 started (with_end s))
    go (yes h) = inside h
    go (no h) = at_end p (omega (arith, w.within)) w g again

-- one that is longer than n, where the 9 is before n or at it
pub long_wrong : (n : ℕ) (s : List ℕ) (p : ℕ) (t : Text) → Wrong s p → p ≤ n → n < length s → Begun s p t → held_at s p t ≡ sound_of (heard_from 0 started (cut_at n s))
long_wrong n s p t w h over g = go (dec_le (suc p) n)
  where
    l : is_lost (next_of (final start (take p s)) (following s p)) ≡ true
    l = wrong_lost s p w (omega arith)

    inside : p < n → held_at s p t ≡ sound_of (heard_from 0 started (cut_at n s))
    inside q =
        let x = take n s in
        let c = at_limit (get_or s n 0) ∷ [] in
        let k = length-take-le n s (omega arith) in
        let first : take p x ≡ take p s = take-take p n s h in
        let byte : get_or x p 0 ≡ get_or s p 0 = get_or-take n s p 0 q in
        let rest : drop p x ++ c ≡ get_or s p 0 ∷ (drop (suc p) x ++ c) = ap (λ (y : List ℕ). y ++ c) (drop-cons x p 0 (omega arith)) ∙ ap (λ b. b ∷ (drop (suc p) x ++ c)) byte in
        let again : take p s ++ (drop p x ++ c) ≡ cut_at n s = ap (λ (y : List ℕ). y ++ (drop p x ++ c)) (sym first) ∙ sym (append_assoc (take p x) (drop p x) c) ∙ ap (λ (y : List ℕ). y ++ c) (take-append-drop p x) in
        wrong_held s t (drop p x ++ c) (following s p) p w.within g l refl
        (subst (λ y. Stops (final start (take p s)) y (following s p)) (sym rest) (lost_stops (final start (take p s)) (get_or s p 0) (drop (suc p) x ++ c) l))
        ∙ ap (λ y. sound_of (heard_from 0 started y)) again

    at_it : p ≡ n → held_at s p t ≡ sound_of (heard_from 0 started (cut_at n s))
    at_it e =
        wrong_held s t (at_limit (get_or s p 0) ∷ []) (following s p) p w.within g l refl (limit_stops (final start (take p s)) (get_or s p 0))
        ∙ ap (λ i. sound_of (heard_from 0 started (cut_at i s))) e

    go : Dec (p < n) → held_at s p t ≡ sound_of (heard_from 0 started (cut_at n s))
    go (yes q) = inside q
    go (no q) = at_it (omega arith)
