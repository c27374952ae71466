-- The machine goes on as long as the text begins one of the form, and stops at the place of refusal 9. Assumes nothing.
use Prim.Native.Nat.{ℕ, suc, ◌≤◌, ◌<◌}
use mathlib.Core.Path.{◌≡◌, refl, sym, ap, ◌∙◌, subst}
use mathlib.Core.Bool.{Bool, true, false, cond, not}
use mathlib.Core.List.{List, [], ◌∷◌, ◌++◌}
use native.Mathlib.Omega.{arith}
use lib.ListN.{length, take}
use Rattle.form.specs.declared.machine.Mode.{Mode}
use Rattle.form.specs.declared.machine.Stage.{Stage}
use Rattle.form.specs.declared.machine.Stage.TheVariants.{Start, Closed, Want, Signed, Whole, Pointed, Fraction, Gap, Lost}
use Rattle.form.specs.declared.machine.Axis.{Axis}
use Rattle.form.specs.declared.machine.Axis.TheVariants.{X, Y, Alone}
use Rattle.form.specs.declared.classes.Class.{Class}
use Rattle.form.specs.declared.classes.Letter.TheVariants.{Move}
use Rattle.form.specs.declared.classes.Class.TheVariants.{Blank, Comma, Sign, Digit, Dot, Command, Other}
use Rattle.form.specs.Bytes.{class_of}
use Rattle.form.specs.Form.{HasForm, Begins, Wrong}
use Rattle.form.specs.Machine.{start, row_of, lost_by, next_of, final, is_lost, may_end, stop}
use Rattle.form.proofs.Taken.{never, form_ends}
use Rattle.form.proofs.Parse.{taken_form}

-- a text in two parts
pub final_append : (m : Mode) (s r : List ℕ) → final m (s ++ r) ≡ final (final m s) r
final_append m [] r = refl
final_append m (b ∷ s) r = final_append (next_of m (class_of b)) s r

-- how a text can still be ended, in zeros and commas: what follows a number of an axis, what comes before one, and what ends each mode
rest_after : Axis → List ℕ
rest_after X = 44 ∷ 48 ∷ []
rest_after Y = []
rest_after Alone = []

rest_before : Axis → List ℕ
rest_before X = []
rest_before Y = 48 ∷ []
rest_before Alone = []

rest : Stage → Axis → List ℕ
rest Start a = []
rest Closed a = []
rest Want a = 48 ∷ rest_after a
rest Signed a = 48 ∷ rest_after a
rest Whole a = rest_after a
rest Pointed a = 48 ∷ rest_after a
rest Fraction a = rest_after a
rest Gap a = rest_before a
rest Lost a = []

ended : (g : Stage) (a : Axis) (n : ℕ) → lost_by (row_of g).stand ≡ false → may_end (final (record { stage = g; axis = a; places = n }) (rest g a)) ≡ true
unfolding rest rest_after rest_before class_of
ended Start a n e = refl
ended Closed a n e = refl
ended Want X n e = refl
ended Want Y n e = refl
ended Want Alone n e = refl
ended Signed X n e = refl
ended Signed Y n e = refl
ended Signed Alone n e = refl
ended Whole X n e = refl
ended Whole Y n e = refl
ended Whole Alone n e = refl
ended Pointed X n e = refl
ended Pointed Y n e = refl
ended Pointed Alone n e = refl
ended Fraction X n e = refl
ended Fraction Y n e = refl
ended Fraction Alone n e = refl
ended Gap X n e = refl
ended Gap Y n e = refl
ended Gap Alone n e = refl
ended Lost a n e = absurd (never (sym e))

-- lost stays lost
lost_next : (a : Axis) (n : ℕ) (k : Class) → (next_of (record { stage = Lost; axis = a; places = n }) k).stage ≡ Lost
lost_next a n Blank = refl
lost_next a n Comma = refl
lost_next a n Sign = refl
lost_next a n Digit = refl
lost_next a n Dot = refl
lost_next a n (Command l) = refl
lost_next a n Other = refl

pub is_lost_lem : (g : Stage) → lost_by (row_of g).stand ≡ true → g ≡ Lost
is_lost_lem Start e = absurd (never e)
is_lost_lem Closed e = absurd (never e)
is_lost_lem Want e = absurd (never e)
is_lost_lem Signed e = absurd (never e)
is_lost_lem Whole e = absurd (never e)
is_lost_lem Pointed e = absurd (never e)
is_lost_lem Fraction e = absurd (never e)
is_lost_lem Gap e = absurd (never e)
is_lost_lem Lost e = refl

pub stays_lost : (m : Mode) (k : Class) → is_lost m ≡ true → is_lost (next_of m k) ≡ true
stays_lost m k e =
    let l = is_lost_lem m.stage e in
    ap (λ g. is_lost (next_of (record { stage = g; axis = m.axis; places = m.places }) k)) l ∙ ap (λ g. lost_by (row_of g).stand) (lost_next m.axis m.places k)

pub lost_final : (m : Mode) (s : List ℕ) → is_lost m ≡ true → is_lost (final m s) ≡ true
lost_final m [] e = e
lost_final m (b ∷ s) e = lost_final (next_of m (class_of b)) s (stays_lost m (class_of b) e)

-- and no text may end so
pub lost_end : (m : Mode) → is_lost m ≡ true → may_end m ≡ false
lost_end m e = ap not (stays_lost m (Command Move) e)

-- not lost exactly while the text begins one of the form
pub begins_when : (s : List ℕ) → is_lost (final start s) ≡ false → Begins s
begins_when s e =
    let m = final start s in
    let r = rest m.stage m.axis in
    (r, taken_form (s ++ r) (ap may_end (final_append start s r) ∙ ended m.stage m.axis m.places e))

pub lost_begins_not : (s : List ℕ) → is_lost (final start s) ≡ true → Begins s → ⊥
lost_begins_not s e b =
    let r = b.0 in
    let t = b.1.0 in
    let x : may_end (final start (s ++ r)) ≡ true = subst (λ l. may_end (final start l) ≡ true) b.1.1 (form_ends t) in
    let y : may_end (final start (s ++ r)) ≡ false = ap may_end (final_append start s r) ∙ lost_end (final (final start s) r) (lost_final (final start s) r e) in
    never (sym y ∙ x)

-- it takes exactly the texts of the form
pub form_taken : (s : List ℕ) → HasForm s → may_end (final start s) ≡ true
form_taken s h = subst (λ l. may_end (final start l) ≡ true) h.1 (form_ends h.0)

-- where it stops
stop_within : (m : Mode) (s : List ℕ) → stop m s ≤ length s
unfolding stop
stop_within m [] = omega arith
stop_within m (b ∷ s) = go (is_lost (next_of m (class_of b))) (stop_within (next_of m (class_of b)) s)
  where
    go : (d : Bool) → stop (next_of m (class_of b)) s ≤ length s → cond d 0 (suc (stop (next_of m (class_of b)) s)) ≤ length (b ∷ s)
    go true h = omega arith
    go false h = omega arith

stop_begins : (m : Mode) (s : List ℕ) → is_lost m ≡ false → is_lost (final m (take (stop m s) s)) ≡ false
unfolding stop
stop_begins m [] e = e
stop_begins m (b ∷ s) e = go (is_lost (next_of m (class_of b))) refl (stop_begins (next_of m (class_of b)) s)
  where
    go : (d : Bool) → is_lost (next_of m (class_of b)) ≡ d → (is_lost (next_of m (class_of b)) ≡ false → is_lost (final (next_of m (class_of b)) (take (stop (next_of m (class_of b)) s) s)) ≡ false)
        → is_lost (final m (take (cond d 0 (suc (stop (next_of m (class_of b)) s))) (b ∷ s))) ≡ false
    go true q h = e
    go false q h = h q

stop_lost : (m : Mode) (s : List ℕ) → stop m s < length s → is_lost (final m (take (suc (stop m s)) s)) ≡ true
unfolding stop
stop_lost m [] l = absurd (omega arith)
stop_lost m (b ∷ s) l = go (is_lost (next_of m (class_of b))) refl (stop_lost (next_of m (class_of b)) s) l
  where
    go : (d : Bool) → is_lost (next_of m (class_of b)) ≡ d → (stop (next_of m (class_of b)) s < length s → is_lost (final (next_of m (class_of b)) (take (suc (stop (next_of m (class_of b)) s)) s)) ≡ true)
        → cond d 0 (suc (stop (next_of m (class_of b)) s)) < length (b ∷ s) → is_lost (final m (take (suc (cond d 0 (suc (stop (next_of m (class_of b)) s)))) (b ∷ s))) ≡ true
    go true q h l = q
    go false q h l = h (omega arith)

-- refusal 9
pub wrong_at : (s : List ℕ) → may_end (final start s) ≡ false → Wrong s (stop start s)
wrong_at s e = record {
  unformed = λ h. never (sym e ∙ form_taken s h);
  within = stop_within start s;
  begins = begins_when (take (stop start s) s) (stop_begins start s refl);
  ends = λ l b. lost_begins_not (take (suc (stop start s)) s) (stop_lost start s l) b;
}
