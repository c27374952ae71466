-- The form of a path text, by document 01's paragraph "Path text" and W-204: what a text is made of, and how that is spelt. Each spelling takes the
-- text that follows. Assumes nothing.
use Rattle.std.specs.Prelude.{ℕ, suc, ◌≤◌, ◌<◌, ◌≡◌, Bool, true, false, List, [], ◌∷◌, ◌++◌, length, take}
use Rattle.form.specs.declared.classes.Class.{Class}
use Rattle.form.specs.declared.classes.Class.TheVariants.{Blank, Comma, Sign, Digit, Dot, Command}
use Rattle.form.specs.declared.classes.Letter.TheVariants.{Move, Line, Along, Close}
use Rattle.form.specs.declared.machine.Axis.{Axis}
use Rattle.form.specs.declared.machine.Axis.TheVariants.{X, Alone}
use Rattle.form.specs.Bytes.{class_of}
use Rattle.form.specs.Machine.{after, ends_point}

-- a byte of a class, and any number of them
pub record Byte (k : Class) : Type 0 where
  pub code : ℕ
  pub kind : class_of code ≡ k

abbrev pub Blanks : Type 0
Blanks = List (Byte Blank)

abbrev pub Digits : Type 0
Digits = List (Byte Digit)

abbrev pub bytes : {k : Class} → List (Byte k) → List ℕ → List ℕ
bytes [] r = r
bytes (b ∷ bs) r = b.code ∷ bytes bs r

-- "at most six digits after the point", and SVG 2 wants one
pub record Places : Type 0 where
  pub first : Byte Digit
  pub others : Digits
  pub few : length others ≤ 5

abbrev pub places : Places → List ℕ → List ℕ
places d r = d.first.code ∷ bytes d.others r

-- what may follow the digits before the point
pub data Tail : Type 0 where
  none : Tail
  point : Byte Dot → Places → Tail

abbrev pub tail : Tail → List ℕ → List ℕ
tail none r = r
tail (point p ds) r = p.code ∷ places ds r

-- "decimals such as -12.5 or .25"
pub data Decimal : Type 0 where
  digits : Byte Digit → Digits → Tail → Decimal
  dotted : Byte Dot → Places → Decimal

abbrev pub decimal : Decimal → List ℕ → List ℕ
decimal (digits d ds t) r = d.code ∷ bytes ds (tail t r)
decimal (dotted p ds) r = p.code ∷ places ds r

-- "with an optional sign"
pub data Number : Type 0 where
  bare : Decimal → Number
  signed : Byte Sign → Decimal → Number

abbrev pub number : Number → List ℕ → List ℕ
number (bare d) r = decimal d r
number (signed g d) r = g.code ∷ decimal d r

-- whether it has a point
abbrev pub tail_point : Tail → Bool
tail_point none = false
tail_point (point p ds) = true

abbrev pub decimal_point : Decimal → Bool
decimal_point (digits d ds t) = tail_point t
decimal_point (dotted p ds) = true

abbrev pub has_point : Number → Bool
has_point (bare d) = decimal_point d
has_point (signed g d) = decimal_point d

-- "Between numbers: white space, or one comma with or without white space around it, or nothing where the next begins with a sign": this, and the
-- next number. By SVG 2 also nothing where the next begins with a point and the one before has one, which is what h tells.
pub data Next (h : Bool) : Type 0 where
  spaced : Byte Blank → Blanks → Number → Next h
  parted : Blanks → Byte Comma → Blanks → Number → Next h
  joined : Byte Sign → Decimal → Next h
  abutted : h ≡ true → Byte Dot → Places → Next h

abbrev pub next : {h : Bool} → Next h → List ℕ → List ℕ
next (spaced b bs n) r = b.code ∷ bytes bs (number n r)
next (parted bs c cs n) r = bytes bs (c.code ∷ bytes cs (number n r))
next (joined g d) r = g.code ∷ decimal d r
next (abutted e p ds) r = p.code ∷ places ds r

abbrev pub number_of : {h : Bool} → Next h → Number
number_of (spaced b bs n) = n
number_of (parted bs c cs n) = n
number_of (joined g d) = signed g d
number_of (abutted e p ds) = bare (dotted p ds)

-- the numbers behind one of an axis, that has a point or not: they stop where a point is complete, and after x comes y, after y comes x ("Further
-- pairs"), after a number of H or V another
pub data More : Axis → Bool → Type 0 where
  stop : {a : Axis} {h : Bool} → ends_point a ≡ true → More a h
  more : {a : Axis} {h : Bool} (n : Next h) → More (after a) (has_point (number_of n)) → More a h

abbrev pub numbers : {a : Axis} {h : Bool} → More a h → List ℕ → List ℕ
numbers (stop e) r = r
numbers (more n ms) r = next n (numbers ms r)

-- the numbers of a command whose first is of an axis. "No comma next to a command."
pub record Points (a : Axis) : Type 0 where
  pub lead : Blanks
  pub first : Number
  pub others : More a (has_point first)

abbrev pub points : {a : Axis} → Points a → List ℕ → List ℕ
points p r = bytes p.lead (number p.first (numbers p.others r))

-- the commands, in either case of their letters: white space "may stand before and after any command", here that after it
pub data Drawing : Type 0 where
  move : Byte (Command Move) → Points X → Blanks → Drawing
  line : Byte (Command Line) → Points X → Blanks → Drawing
  along : Byte (Command Along) → Points Alone → Blanks → Drawing
  close : Byte (Command Close) → Blanks → Drawing

abbrev pub command : Drawing → List ℕ → List ℕ
command (move m p bs) r = m.code ∷ points p (bytes bs r)
command (line l p bs) r = l.code ∷ points p (bytes bs r)
command (along l p bs) r = l.code ∷ points p (bytes bs r)
command (close z bs) r = z.code ∷ bytes bs r

abbrev pub commands : List Drawing → List ℕ → List ℕ
commands [] r = r
commands (c ∷ cs) r = command c (commands cs r)

-- "White space before it aside, text is empty or begins with M"
pub data Text : Type 0 where
  empty : Blanks → Text
  drawn : Blanks → Byte (Command Move) → Points X → Blanks → List Drawing → Text

abbrev pub text : Text → List ℕ
text (empty bs) = bytes bs []
text (drawn bs m p cs ds) = bytes bs (m.code ∷ points p (bytes cs (commands ds [])))

-- s is a text of the form; s is how one begins
abbrev pub HasForm : List ℕ → Type 0
HasForm s = (t : Text) × (text t ≡ s)

abbrev pub Begins : List ℕ → Type 0
Begins s = (r : List ℕ) × HasForm (s ++ r)

-- the place of refusal 9: "the first byte with which the text so far begins no text of that form, or the length"
pub record Wrong (s : List ℕ) (p : ℕ) : Type 0 where
  pub unformed : HasForm s → ⊥
  pub within : p ≤ length s
  pub begins : Begins (take p s)
  pub ends : p < length s → Begins (take (suc p) s) → ⊥
