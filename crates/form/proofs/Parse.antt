-- From the machine to the form: a text that the machine takes has the form. Assumes nothing.
use Prim.Native.Nat.{ℕ, ◌+◌, ◌-◌, ◌≤◌}
use mathlib.Core.Path.{◌≡◌, refl, ap, ◌∙◌}
use mathlib.Core.Bool.{Bool, true, false, cond, not}
use mathlib.Core.List.{List, [], ◌∷◌}
use native.Mathlib.Omega.{arith}
use borrow.Author.Tests.{ltb-true}
use lib.Dec.{ltb}
use lib.ListN.{length}
use Rattle.form.specs.declared.classes.Class.{Class}
use Rattle.form.specs.declared.classes.Class.TheVariants.{Blank, Comma, Sign, Digit, Dot, Command, Other}
use Rattle.form.specs.declared.classes.Letter.{Letter}
use Rattle.form.specs.declared.classes.Letter.TheVariants as letters
use Rattle.form.specs.declared.machine.Axis.{Axis}
use Rattle.form.specs.declared.machine.Axis.TheVariants.{X, Y, Alone}
use Rattle.form.specs.declared.machine.Mode.{Mode}
use Rattle.form.specs.declared.machine.Stage.{Stage}
use Rattle.form.specs.declared.machine.Stage.TheVariants.{Start, Closed, Want, Signed, Whole, Pointed, Fraction, Gap, Lost}
use Rattle.form.specs.declared.machine.Stand.TheVariants.{Between}
use Rattle.form.specs.Bytes.{class_of}
use Rattle.form.specs.Form.{Byte, Blanks, Digits, bytes, Places, places, Tail, none, point, tail, Decimal, digits, dotted, decimal, Number, bare, signed, number, tail_point, decimal_point, has_point, Next, spaced}
use Rattle.form.specs.Form.{parted, joined, abutted, next, number_of, More, stop, more, numbers, Points, points, Drawing, move, line, along, close, commands, Text, empty, drawn, text, HasForm}
use Rattle.form.specs.Machine.{after, begins_point, ends_point, at, start, deep, deeper, any_letter, first_letter, lettered_of, next_of, final, is_lost, may_end}
use Rattle.form.proofs.Taken.{never}

-- s is a part p, spelt, and then what K says of p and what follows
abbrev Then : (A : Type 0) → (A → List ℕ → List ℕ) → (A → List ℕ → Type 0) → List ℕ → Type 0
Then A spell K s = (a : A) × (r : List ℕ) × K a r × (spell a r ≡ s)

-- at most so many digits
pub record Few (k : ℕ) : Type 0 where
  pub digs : Digits
  pub few : length digs ≤ k

abbrev few : {k : ℕ} → Few k → List ℕ → List ℕ
few d r = bytes d.digs r

-- what parts two numbers, after its first white space, with the second
data Rest : Type 0 where
  bare_rest : Blanks → Number → Rest
  comma_rest : Blanks → Byte Comma → Blanks → Number → Rest

abbrev rest : Rest → List ℕ → List ℕ
rest (bare_rest bs n) r = bytes bs (number n r)
rest (comma_rest bs c cs n) r = bytes bs (c.code ∷ bytes cs (number n r))

abbrev rest_point : Rest → Bool
rest_point (bare_rest bs n) = has_point n
rest_point (comma_rest bs c cs n) = has_point n

abbrev End : List ℕ → Type 0
End s = Then (List Drawing) commands (λ cs r. [] ≡ r) s

-- white space and further commands
abbrev Ready : List ℕ → Type 0
Ready s = Then Blanks bytes (λ bs r. End r) s

-- what follows a number of an axis, that has a point or not
abbrev Follow : Axis → Bool → List ℕ → Type 0
Follow a h s = Then (More a h) numbers (λ ms r. Ready r) s

-- a number of an axis, a decimal, and the parts of one, with all that follows
abbrev Numbered : Axis → List ℕ → Type 0
Numbered a s = Then Number number (λ n r. Follow a (has_point n) r) s

abbrev Decimaled : Axis → List ℕ → Type 0
Decimaled a s = Then Decimal decimal (λ d r. Follow a (decimal_point d) r) s

abbrev Tailed : Axis → List ℕ → Type 0
Tailed a s = Then Tail tail (λ t r. Follow a (tail_point t) r) s

abbrev Placed : Axis → List ℕ → Type 0
Placed a s = Then Places places (λ ds r. Follow a true r) s

abbrev Wanted : Axis → List ℕ → Type 0
Wanted a s = Then Blanks bytes (λ bs r. Numbered a r) s

abbrev Rested : Axis → List ℕ → Type 0
Rested a s = Then Rest rest (λ x r. Follow a (rest_point x) r) s

data Either (A B : Type 0) : Type 0 where
  left : A → Either A B
  right : B → Either A B

-- behind a number and white space: the end of the numbers, or one more
abbrev Gapped : Axis → List ℕ → Type 0
Gapped a s = Either ((begins_point a ≡ true) × Ready s) (Rested a s)

-- what is to come in each mode
abbrev From : Stage → Axis → ℕ → List ℕ → Type 0
From Start a k s = HasForm s
From Closed a k s = Ready s
From Want a k s = Wanted a s
From Signed a k s = Decimaled a s
From Whole a k s = Then Digits bytes (λ ds r. Tailed a r) s
From Pointed a k s = Placed a s
From Fraction a k s = Then (Few (6 - k)) few (λ ds r. Follow a true r) s
From Gap a k s = Gapped a s
From Lost a k s = ⊥

abbrev To : Mode → List ℕ → Type 0
To m s = From m.stage m.axis m.places s

module _ (b : ℕ) (s : List ℕ) where
  abbrev byte : {k : Class} → class_of b ≡ k → Byte k
  byte e = record { code = b; kind = e }

  -- one more of a run of bytes
  grow : {k : Class} {K : List ℕ → Type 0} → class_of b ≡ k → Then (List (Byte k)) bytes (λ bs r. K r) s → Then (List (Byte k)) bytes (λ bs r. K r) (b ∷ s)
  grow e t = (byte e ∷ t.0, t.1, t.2, ap (λ l. b ∷ l) t.3)

  -- none of it
  skip : {k : Class} {K : List ℕ → Type 0} → K (b ∷ s) → Then (List (Byte k)) bytes (λ bs r. K r) (b ∷ s)
  skip t = ([], b ∷ s, t, refl)

  module _ (a : Axis) where
    -- a decimal begins with b
    by_digit : class_of b ≡ Digit → Then Digits bytes (λ ds r. Tailed a r) s → Decimaled a (b ∷ s)
    by_digit e t =
        let x = t.2 in
        (digits (byte e) t.0 x.0, x.1, x.2, ap (λ l. b ∷ l) (ap (λ l. bytes t.0 l) x.3 ∙ t.3))

    by_dot : class_of b ≡ Dot → Placed a s → Decimaled a (b ∷ s)
    by_dot e t = (dotted (byte e) t.0, t.1, t.2, ap (λ l. b ∷ l) t.3)

    -- a number does
    unsigned : Decimaled a (b ∷ s) → Numbered a (b ∷ s)
    unsigned t = (bare t.0, t.1, t.2, t.3)

    by_sign : class_of b ≡ Sign → Decimaled a s → Numbered a (b ∷ s)
    by_sign e t = (signed (byte e) t.0, t.1, t.2, ap (λ l. b ∷ l) t.3)

    -- the point of one, and the digits after it
    tail_dot : class_of b ≡ Dot → Placed a s → Tailed a (b ∷ s)
    tail_dot e t = (point (byte e) t.0, t.1, t.2, ap (λ l. b ∷ l) t.3)

    tail_none : Follow a false (b ∷ s) → Tailed a (b ∷ s)
    tail_none t = (none, b ∷ s, t, refl)

    first_place : class_of b ≡ Digit → Then (Few 5) few (λ ds r. Follow a true r) s → Placed a (b ∷ s)
    first_place e t = (record { first = byte e; others = t.0.digs; few = t.0.few }, t.1, t.2, ap (λ l. b ∷ l) t.3)

    no_place : (k : ℕ) → Follow a true (b ∷ s) → To (deep a k) (b ∷ s)
    no_place k t = (record { digs = []; few = omega arith }, b ∷ s, t, refl)

    one_place : (k : ℕ) → class_of b ≡ Digit → To (deeper a k) s → To (deep a k) (b ∷ s)
    one_place k e t = go (ltb k 6) refl t
      where
        go : (d : Bool) → ltb k 6 ≡ d → To (cond d (deep a (k + 1)) (at Lost a)) s → To (deep a k) (b ∷ s)
        go true q t =
            let l = ltb-true k 6 q in
            (record { digs = byte e ∷ t.0.digs; few = omega (arith, t.0.few) }, t.1, t.2, ap (λ l. b ∷ l) t.3)
        go false q t = absurd t

    -- what parts two numbers begins with b, where a is the axis of the first
    one_more : {h : Bool} → (n : Next h) × (r : List ℕ) × Follow (after a) (has_point (number_of n)) r × (next n r ≡ b ∷ s) → Follow a h (b ∷ s)
    one_more t =
        let m = t.2 in
        (more t.0 m.0, m.1, m.2, ap (λ l. next t.0 l) m.3 ∙ t.3)

    gapped : {h : Bool} → class_of b ≡ Blank → Rested (after a) s → Follow a h (b ∷ s)
    gapped {h} e t = go t.0 t.2 t.3
      where
        go : (x : Rest) → Follow (after a) (rest_point x) t.1 → rest x t.1 ≡ s → Follow a h (b ∷ s)
        go (bare_rest bs n) f q = one_more (spaced (byte e) bs n, t.1, f, ap (λ l. b ∷ l) q)
        go (comma_rest bs c cs n) f q = one_more (parted (byte e ∷ bs) c cs n, t.1, f, ap (λ l. b ∷ l) q)

    by_comma : {h : Bool} → class_of b ≡ Comma → Wanted (after a) s → Follow a h (b ∷ s)
    by_comma e t = one_more (parted [] (byte e) t.0 t.2.0, t.2.1, t.2.2, ap (λ l. b ∷ l) (ap (λ l. bytes t.0 l) t.2.3 ∙ t.3))

    by_join : {h : Bool} → class_of b ≡ Sign → Decimaled (after a) s → Follow a h (b ∷ s)
    by_join e t = one_more (joined (byte e) t.0, t.1, t.2, ap (λ l. b ∷ l) t.3)

    by_second : class_of b ≡ Dot → Placed (after a) s → Follow a true (b ∷ s)
    by_second e t = one_more (abutted refl (byte e) t.0, t.1, t.2, ap (λ l. b ∷ l) t.3)

    done : {h : Bool} → ends_point a ≡ true → Ready (b ∷ s) → Follow a h (b ∷ s)
    done e t = (stop e, b ∷ s, t, refl)

    by_blank : {h : Bool} → class_of b ≡ Blank → Gapped (after a) s → Follow a h (b ∷ s)
    by_blank e (left t) = done t.0 (grow e t.1)
    by_blank e (right t) = gapped e t

    -- the rest of it begins with b
    rest_blank : class_of b ≡ Blank → Rested a s → Rested a (b ∷ s)
    rest_blank e t = go t.0 t.2 t.3
      where
        go : (x : Rest) → Follow a (rest_point x) t.1 → rest x t.1 ≡ s → Rested a (b ∷ s)
        go (bare_rest bs n) f q = (bare_rest (byte e ∷ bs) n, t.1, f, ap (λ l. b ∷ l) q)
        go (comma_rest bs c cs n) f q = (comma_rest (byte e ∷ bs) c cs n, t.1, f, ap (λ l. b ∷ l) q)

    rest_comma : class_of b ≡ Comma → Wanted a s → Rested a (b ∷ s)
    rest_comma e t = (comma_rest [] (byte e) t.0 t.2.0, t.2.1, t.2.2, ap (λ l. b ∷ l) (ap (λ l. bytes t.0 l) t.2.3 ∙ t.3))

    rest_number : Numbered a (b ∷ s) → Rested a (b ∷ s)
    rest_number t = (bare_rest [] t.0, t.1, t.2, t.3)

  gap_blank : (a : Axis) → class_of b ≡ Blank → Gapped a s → Gapped a (b ∷ s)
  gap_blank a e (left t) = left (t.0, grow e t.1)
  gap_blank a e (right t) = right (rest_blank a e t)

  -- the numbers after a letter, and what follows them
  pts : (a : Axis) → Wanted a s → (p : Points a) × (bs : Blanks) × (cs : List Drawing) × (points p (bytes bs (commands cs [])) ≡ s)
  pts a t =
      let x = t.2 in
      let m = x.2 in
      let w = m.2 in
      let c = w.2 in (
        record { lead = t.0; first = x.0; others = m.0 },
        w.0,
        c.0,
        ap (λ l. bytes t.0 l) (ap (λ l. number x.0 l) (ap (λ l. numbers m.0 l) (ap (λ l. bytes w.0 l) (ap (λ l. commands c.0 l) c.2 ∙ c.3) ∙ w.3) ∙ m.3) ∙ x.3) ∙ t.3,
      )

  by_letter : (l : Letter) → class_of b ≡ Command l → To (any_letter l) s → Ready (b ∷ s)
  by_letter letters.Move e t = let p = pts X t in ([], b ∷ s, (move (byte e) p.0 p.1 ∷ p.2, [], refl, ap (λ l. b ∷ l) p.3), refl)
  by_letter letters.Line e t = let p = pts X t in ([], b ∷ s, (line (byte e) p.0 p.1 ∷ p.2, [], refl, ap (λ l. b ∷ l) p.3), refl)
  by_letter letters.Along e t = let p = pts Alone t in ([], b ∷ s, (along (byte e) p.0 p.1 ∷ p.2, [], refl, ap (λ l. b ∷ l) p.3), refl)
  by_letter letters.Close e t =
      let c = t.2 in
      ([], b ∷ s, (close (byte e) t.0 ∷ c.0, [], refl, ap (λ l. b ∷ l) (ap (λ l. bytes t.0 l) (ap (λ l. commands c.0 l) c.2 ∙ c.3) ∙ t.3)), refl)

  -- a letter where a point may begin
  between : (a : Axis) (l : Letter) → class_of b ≡ Command l → To (lettered_of Between a l) s → (begins_point a ≡ true) × Ready (b ∷ s)
  between a l e t = go (begins_point a) t
    where
      go : (d : Bool) → To (cond d (any_letter l) (at Lost X)) s → (d ≡ true) × Ready (b ∷ s)
      go true t = (refl, by_letter l e t)
      go false t = absurd t

  first_letter_lem : (l : Letter) → class_of b ≡ Command l → To (first_letter l) s → HasForm (b ∷ s)
  first_letter_lem letters.Move e t = let p = pts X t in (drawn [] (byte e) p.0 p.1 p.2, ap (λ l. b ∷ l) p.3)
  first_letter_lem letters.Line e t = absurd t
  first_letter_lem letters.Along e t = absurd t
  first_letter_lem letters.Close e t = absurd t

  first_blank : class_of b ≡ Blank → HasForm s → HasForm (b ∷ s)
  first_blank e t = go t.0 t.1
    where
      go : (a : Text) → text a ≡ s → HasForm (b ∷ s)
      go (empty bs) q = (empty (byte e ∷ bs), ap (λ l. b ∷ l) q)
      go (drawn bs m p cs ds) q = (drawn (byte e ∷ bs) m p cs ds, ap (λ l. b ∷ l) q)

  -- a letter behind a number
  ends_by : (a : Axis) (h : Bool) (l : Letter) → class_of b ≡ Command l → To (lettered_of Between (after a) l) s → Follow a h (b ∷ s)
  ends_by a h l e t = let x = between (after a) l e t in done a x.0 x.1

  whole_ends : (a : Axis) → Follow a false (b ∷ s) → To (at Whole a) (b ∷ s)
  whole_ends a t = skip (tail_none a t)

  -- one byte back
  back : (g : Stage) (a : Axis) (n : ℕ) (k : Class) → class_of b ≡ k → To (next_of (record { stage = g; axis = a; places = n }) k) s → From g a n (b ∷ s)
  back Start a n Blank e t = first_blank e t
  back Start a n Comma e t = absurd t
  back Start a n Sign e t = absurd t
  back Start a n Digit e t = absurd t
  back Start a n Dot e t = absurd t
  back Start a n (Command l) e t = first_letter_lem l e t
  back Start a n Other e t = absurd t
  back Closed a n Blank e t = grow e t
  back Closed a n Comma e t = absurd t
  back Closed a n Sign e t = absurd t
  back Closed a n Digit e t = absurd t
  back Closed a n Dot e t = absurd t
  back Closed a n (Command l) e t = by_letter l e t
  back Closed a n Other e t = absurd t
  back Want a n Blank e t = grow e t
  back Want a n Comma e t = absurd t
  back Want a n Sign e t = skip (by_sign a e t)
  back Want a n Digit e t = skip (unsigned a (by_digit a e t))
  back Want a n Dot e t = skip (unsigned a (by_dot a e t))
  back Want a n (Command l) e t = absurd t
  back Want a n Other e t = absurd t
  back Signed a n Blank e t = absurd t
  back Signed a n Comma e t = absurd t
  back Signed a n Sign e t = absurd t
  back Signed a n Digit e t = by_digit a e t
  back Signed a n Dot e t = by_dot a e t
  back Signed a n (Command l) e t = absurd t
  back Signed a n Other e t = absurd t
  back Whole a n Blank e t = whole_ends a (by_blank a e t)
  back Whole a n Comma e t = whole_ends a (by_comma a e t)
  back Whole a n Sign e t = whole_ends a (by_join a e t)
  back Whole a n Digit e t = grow e t
  back Whole a n Dot e t = skip (tail_dot a e t)
  back Whole a n (Command l) e t = whole_ends a (ends_by a false l e t)
  back Whole a n Other e t = absurd t
  back Pointed a n Blank e t = absurd t
  back Pointed a n Comma e t = absurd t
  back Pointed a n Sign e t = absurd t
  back Pointed a n Digit e t = first_place a e t
  back Pointed a n Dot e t = absurd t
  back Pointed a n (Command l) e t = absurd t
  back Pointed a n Other e t = absurd t
  back Fraction a n Blank e t = no_place a n (by_blank a e t)
  back Fraction a n Comma e t = no_place a n (by_comma a e t)
  back Fraction a n Sign e t = no_place a n (by_join a e t)
  back Fraction a n Digit e t = one_place a n e t
  back Fraction a n Dot e t = no_place a n (by_second a e t)
  back Fraction a n (Command l) e t = no_place a n (ends_by a true l e t)
  back Fraction a n Other e t = absurd t
  back Gap a n Blank e t = gap_blank a e t
  back Gap a n Comma e t = right (rest_comma a e t)
  back Gap a n Sign e t = right (rest_number a (by_sign a e t))
  back Gap a n Digit e t = right (rest_number a (unsigned a (by_digit a e t)))
  back Gap a n Dot e t = right (rest_number a (unsigned a (by_dot a e t)))
  back Gap a n (Command l) e t = left (between a l e t)
  back Gap a n Other e t = absurd t
  back Lost a n Blank e t = absurd t
  back Lost a n Comma e t = absurd t
  back Lost a n Sign e t = absurd t
  back Lost a n Digit e t = absurd t
  back Lost a n Dot e t = absurd t
  back Lost a n (Command l) e t = absurd t
  back Lost a n Other e t = absurd t

-- where an M may follow a number, no pair is half read
complete : (a : Axis) → not (is_lost (lettered_of Between a letters.Move)) ≡ true → begins_point a ≡ true
complete X e = refl
complete Y e = absurd (never e)
complete Alone e = refl

-- a text may end here
ended : Ready []
ended = ([], [], ([], [], refl, refl), refl)

end_here : (g : Stage) (a : Axis) (n : ℕ) → may_end (record { stage = g; axis = a; places = n }) ≡ true → From g a n []
end_here Start a n e = (empty [], refl)
end_here Closed a n e = ended
end_here Want a n e = absurd (never e)
end_here Signed a n e = absurd (never e)
end_here Whole a n e = ([], [], (none, [], (stop (complete (after a) e), [], ended, refl), refl), refl)
end_here Pointed a n e = absurd (never e)
end_here Fraction a n e = (record { digs = []; few = omega arith }, [], (stop (complete (after a) e), [], ended, refl), refl)
end_here Gap a n e = left (complete a e, ended)
end_here Lost a n e = absurd (never e)

-- a text that the machine takes from a mode is what is to come there
parse : (m : Mode) (s : List ℕ) → may_end (final m s) ≡ true → To m s
parse m [] e = end_here m.stage m.axis m.places e
parse m (b ∷ s) e = back b s m.stage m.axis m.places (class_of b) refl (parse (next_of m (class_of b)) s e)

pub taken_form : (s : List ℕ) → may_end (final start s) ≡ true → HasForm s
taken_form s e = parse start s e
