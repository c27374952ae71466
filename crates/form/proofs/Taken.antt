-- From the form to the machine: a text of the form is taken. Assumes nothing.
use Prim.Native.Nat.{ℕ, suc, ◌+◌, ◌≤◌}
use mathlib.Core.Path.{◌≡◌, refl, ap, ◌∙◌, subst}
use mathlib.Core.Bool.{Bool, true, false, cond, not}
use mathlib.Core.List.{List, [], ◌∷◌}
use native.Mathlib.Omega.{arith}
use borrow.Author.Tests.{lt-ltb}
use lib.ListN.{length}
use Rattle.form.specs.declared.classes.Class.{Class}
use Rattle.form.specs.declared.classes.Class.TheVariants.{Blank, Comma, Sign, Digit, Dot, Command}
use Rattle.form.specs.declared.classes.Letter.{Letter}
use Rattle.form.specs.declared.classes.Letter.TheVariants.{Move}
use Rattle.form.specs.declared.machine.Axis.{Axis}
use Rattle.form.specs.declared.machine.Axis.TheVariants.{X, Alone}
use Rattle.form.specs.declared.machine.Mode.{Mode}
use Rattle.form.specs.declared.machine.Stage.TheVariants.{Closed, Want, Signed, Whole, Pointed, Gap, Lost}
use Rattle.form.specs.declared.machine.Stand.TheVariants.{Between}
use Rattle.form.specs.Form.{Byte, Blanks, Digits, bytes, Places, places, Tail, none, point, tail, Decimal, digits, dotted, decimal, Number, bare, signed, number, tail_point, decimal_point, has_point, Next, spaced}
use Rattle.form.specs.Form.{parted, joined, abutted, next, number_of, More, stop, more, numbers, Points, points, Drawing, move, line, along, close, command, commands, Text, empty, drawn, text}
use Rattle.form.specs.Machine.{at, start, deep, after, ends_point, any_letter, lettered_of, next_of, final, is_lost, may_end}

pub never : false ≡ true → ⊥
never e = subst (λ b. elim b as (λ x. Type 0) [ false ↦ Unit | true ↦ ⊥ ]) e tt

-- what each part does to a mode
pub into : {k : Class} (m : Mode) (b : Byte k) (r : List ℕ) → final m (b.code ∷ r) ≡ final (next_of m k) r
into m b r = ap (λ k. final (next_of m k) r) b.kind

same_run : {k : Class} (m : Mode) → next_of m k ≡ m → (bs : List (Byte k)) (r : List ℕ) → final m (bytes bs r) ≡ final m r
same_run m e [] r = refl
same_run m e (b ∷ bs) r = into m b (bytes bs r) ∙ ap (λ n. final n (bytes bs r)) e ∙ same_run m e bs r

-- the mode behind a number
abbrev pub tail_mode : Axis → Tail → Mode
tail_mode a none = at Whole a
tail_mode a (point p ds) = deep a (1 + length ds.others)

abbrev pub decimal_mode : Axis → Decimal → Mode
decimal_mode a (digits d ds t) = tail_mode a t
decimal_mode a (dotted p ds) = deep a (1 + length ds.others)

abbrev pub number_mode : Axis → Number → Mode
number_mode a (bare d) = decimal_mode a d
number_mode a (signed g d) = decimal_mode a d

module _ (a : Axis) where
  -- digits after the point, as long as there are six at most
  pub deep_run : (k : ℕ) (ds : Digits) → k + length ds ≤ 6 → (r : List ℕ) → final (deep a k) (bytes ds r) ≡ final (deep a (k + length ds)) r
  deep_run k [] h r = ap (λ j. final (deep a j) r) (let e : k ≡ k + 0 = omega arith in e)
  deep_run k (d ∷ ds) h r =
      into (deep a k) d (bytes ds r)
      ∙ ap (λ t. final (cond t (deep a (k + 1)) (at Lost a)) (bytes ds r)) (lt-ltb k 6 (omega arith))
      ∙ deep_run (k + 1) ds (omega arith) r
      ∙ ap (λ j. final (deep a j) r) (let e : k + 1 + length ds ≡ k + suc (length ds) = omega arith in e)

  same_places : (ds : Places) (r : List ℕ) → final (at Pointed a) (places ds r) ≡ final (deep a (1 + length ds.others)) r
  same_places ds r = into (at Pointed a) ds.first (bytes ds.others r) ∙ deep_run 1 ds.others (omega (arith, ds.few)) r

  same_tail : (t : Tail) (r : List ℕ) → final (at Whole a) (tail t r) ≡ final (tail_mode a t) r
  same_tail none r = refl
  same_tail (point p ds) r = into (at Whole a) p (places ds r) ∙ same_places ds r

  -- a mode where a number may begin
  pub record Wants (m : Mode) : Type 0 where
    pub sign : next_of m Sign ≡ at Signed a
    pub digit : next_of m Digit ≡ at Whole a
    pub dot : next_of m Dot ≡ at Pointed a

  -- a digit or a point, and what follows it
  pub record Starts (m : Mode) : Type 0 where
    pub digit : next_of m Digit ≡ at Whole a
    pub dot : next_of m Dot ≡ at Pointed a

  same_decimal : (m : Mode) → Starts m → (d : Decimal) (r : List ℕ) → final m (decimal d r) ≡ final (decimal_mode a d) r
  same_decimal m w (digits d ds t) r =
      into m d (bytes ds (tail t r)) ∙ ap (λ x. final x (bytes ds (tail t r))) w.digit ∙ same_run (at Whole a) refl ds (tail t r) ∙ same_tail t r
  same_decimal m w (dotted p ds) r = into m p (places ds r) ∙ ap (λ x. final x (places ds r)) w.dot ∙ same_places ds r

  same_number : (m : Mode) → Wants m → (n : Number) (r : List ℕ) → final m (number n r) ≡ final (number_mode a n) r
  same_number m w (bare d) r = same_decimal m (record { digit = w.digit; dot = w.dot }) d r
  same_number m w (signed g d) r = into m g (decimal d r) ∙ ap (λ x. final x (decimal d r)) w.sign ∙ same_decimal (at Signed a) (record { digit = refl; dot = refl }) d r

  want : Wants (at Want a)
  want = record { sign = refl; digit = refl; dot = refl }

gap : (a : Axis) → Wants a (at Gap a)
gap a = record { sign = refl; digit = refl; dot = refl }

-- a mode behind a number, that has a point or not
pub record Behind (a : Axis) (h : Bool) (m : Mode) : Type 0 where
  pub blank : next_of m Blank ≡ at Gap (after a)
  pub comma : next_of m Comma ≡ at Want (after a)
  pub sign : next_of m Sign ≡ at Signed (after a)
  pub dot : h ≡ true → next_of m Dot ≡ at Pointed (after a)
  pub letter : (l : Letter) → next_of m (Command l) ≡ lettered_of Between (after a) l

whole : (a : Axis) → Behind a false (at Whole a)
whole a = record { blank = refl; comma = refl; sign = refl; dot = λ e. absurd (never e); letter = λ l. refl }

fraction : (a : Axis) (k : ℕ) → Behind a true (deep a k)
fraction a k = record { blank = refl; comma = refl; sign = refl; dot = λ e. refl; letter = λ l. refl }

behind_tail : (a : Axis) (t : Tail) → Behind a (tail_point t) (tail_mode a t)
behind_tail a none = whole a
behind_tail a (point p ds) = fraction a (1 + length ds.others)

behind_decimal : (a : Axis) (d : Decimal) → Behind a (decimal_point d) (decimal_mode a d)
behind_decimal a (digits d ds t) = behind_tail a t
behind_decimal a (dotted p ds) = fraction a (1 + length ds.others)

pub behind : (a : Axis) (n : Number) → Behind a (has_point n) (number_mode a n)
behind a (bare d) = behind_decimal a d
behind a (signed g d) = behind_decimal a d

module _ (a : Axis) (h : Bool) (m : Mode) (w : Behind a h m) where
  comma_next : (bs : Blanks) (c : Byte Comma) (r : List ℕ) → final m (bytes bs (c.code ∷ r)) ≡ final (at Want (after a)) r
  comma_next [] c r = into m c r ∙ ap (λ x. final x r) w.comma
  comma_next (b ∷ bs) c r =
      into m b (bytes bs (c.code ∷ r)) ∙ ap (λ x. final x (bytes bs (c.code ∷ r))) w.blank ∙ same_run (at Gap (after a)) refl bs (c.code ∷ r) ∙ into (at Gap (after a)) c r

  same_next : (n : Next h) (r : List ℕ) → final m (next n r) ≡ final (number_mode (after a) (number_of n)) r
  same_next (spaced b bs n) r =
      into m b (bytes bs (number n r)) ∙ ap (λ x. final x (bytes bs (number n r))) w.blank ∙ same_run (at Gap (after a)) refl bs (number n r) ∙ same_number (after a) (at Gap (after a)) (gap (after a)) n r
  same_next (parted bs c cs n) r =
      comma_next bs c (bytes cs (number n r)) ∙ same_run (at Want (after a)) refl cs (number n r) ∙ same_number (after a) (at Want (after a)) (want (after a)) n r
  same_next (joined g d) r =
      into m g (decimal d r) ∙ ap (λ x. final x (decimal d r)) w.sign ∙ same_decimal (after a) (at Signed (after a)) (record { digit = refl; dot = refl }) d r
  same_next (abutted e p ds) r = into m p (places ds r) ∙ ap (λ x. final x (places ds r)) (w.dot e) ∙ same_places (after a) ds r

-- a mode where a command may begin, and so the text may end
pub record Idle (m : Mode) : Type 0 where
  pub letter : (l : Letter) → next_of m (Command l) ≡ any_letter l

any_letter_lem : (a : Axis) → ends_point a ≡ true → (l : Letter) → lettered_of Between (after a) l ≡ any_letter l
any_letter_lem a e l = ap (λ t. cond t (any_letter l) (at Lost X)) e

-- where the numbers of a command lead, and white space behind them
Rested : Mode → List ℕ → List ℕ → Type 0
Rested m s r = (n : Mode) × Idle n × (final m s ≡ final n r)

settles : (a : Axis) (h : Bool) (m : Mode) → Behind a h m → ends_point a ≡ true → (bs : Blanks) (r : List ℕ) → Rested m (bytes bs r) r
unfolding Rested
settles a h m w e [] r = (m, record { letter = λ l. w.letter l ∙ any_letter_lem a e l }, refl)
settles a h m w e (b ∷ bs) r =
    (at Gap (after a), record { letter = λ l. any_letter_lem a e l }, into m b (bytes bs r) ∙ ap (λ x. final x (bytes bs r)) w.blank ∙ same_run (at Gap (after a)) refl bs r)

same_numbers : (a : Axis) (h : Bool) (m : Mode) → Behind a h m → (ms : More a h) (bs : Blanks) (r : List ℕ) → Rested m (numbers ms (bytes bs r)) r
unfolding Rested
same_numbers a h m w (stop e) bs r = settles a h m w e bs r
same_numbers a h m w (more n ms) bs r =
    let t = same_numbers (after a) (has_point (number_of n)) (number_mode (after a) (number_of n)) (behind (after a) (number_of n)) ms bs r in
    (t.0, t.1, same_next a h m w n (numbers ms (bytes bs r)) ∙ t.2)

same_points : (a : Axis) (p : Points a) (bs : Blanks) (r : List ℕ) → Rested (at Want a) (points p (bytes bs r)) r
unfolding Rested
same_points a p bs r =
    let s = numbers p.others (bytes bs r) in
    let t = same_numbers a (has_point p.first) (number_mode a p.first) (behind a p.first) p.others bs r in
    (t.0, t.1, same_run (at Want a) refl p.lead (number p.first s) ∙ same_number a (at Want a) (want a) p.first s ∙ t.2)

-- a letter from an idle mode, and what follows it
lettered : (m : Mode) → Idle m → (l : Letter) (b : Byte (Command l)) (s r : List ℕ) → Rested (any_letter l) s r → Rested m (b.code ∷ s) r
unfolding Rested
lettered m i l b s r t = (t.0, t.1, into m b s ∙ ap (λ x. final x s) (i.letter l) ∙ t.2)

closed : (bs : Blanks) (r : List ℕ) → Rested (at Closed X) (bytes bs r) r
unfolding Rested
closed bs r = (at Closed X, record { letter = λ l. refl }, same_run (at Closed X) refl bs r)

one : (c : Drawing) (m : Mode) → Idle m → (r : List ℕ) → Rested m (command c r) r
one (move k p bs) m i r = lettered m i _ k (points p (bytes bs r)) r (same_points X p bs r)
one (line k p bs) m i r = lettered m i _ k (points p (bytes bs r)) r (same_points X p bs r)
one (along k p bs) m i r = lettered m i _ k (points p (bytes bs r)) r (same_points Alone p bs r)
one (close k bs) m i r = lettered m i _ k (bytes bs r) r (closed bs r)

all : (cs : List Drawing) (m : Mode) → Idle m → may_end (final m (commands cs [])) ≡ true
unfolding Rested
all [] m i = ap (λ x. not (is_lost x)) (i.letter Move)
all (c ∷ cs) m i =
    let t = one c m i (commands cs []) in
    ap may_end t.2 ∙ all cs t.0 t.1

-- a text of the form is taken
pub form_ends : (t : Text) → may_end (final start (text t)) ≡ true
unfolding Rested
form_ends (empty bs) = ap may_end (same_run start refl bs [])
form_ends (drawn bs m p cs ds) =
    let s = points p (bytes cs (commands ds [])) in
    let t = same_points X p cs (commands ds []) in
    ap may_end (same_run start refl bs (m.code ∷ s) ∙ into start m s ∙ t.2) ∙ all ds t.0 t.1
