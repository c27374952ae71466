-- The bytes of a text of the form call for what the text means: one law for each part of the form, for every axis at once. Assumes nothing.
use Prim.Native.Nat.{ℕ, suc, ◌+◌, ◌-◌, ◌≤◌}
use mathlib.Core.Path.{◌≡◌, refl, ap, ◌∙◌}
use mathlib.Core.Bool.{Bool, true, false, cond, ◌||◌}
use mathlib.Core.List.{List, [], ◌∷◌}
use native.Mathlib.Omega.{arith}
use borrow.Author.Tests.{lt-ltb}
use lib.Dec.{eqb}
use lib.ListN.{length}
use lib.Ieee.{Float}
use Rattle.decimals.specs.Decimals.{value_of}
use Rattle.decimals.specs.Digits.{digit_of, whole_cap, fraction_cap, millionths_of, beyond_of, kept_digits, kept_of}
use Rattle.form.specs.declared.classes.Class.{Class}
use Rattle.form.specs.declared.classes.Class.TheVariants.{Blank, Comma, Sign, Digit, Dot, Command}
use Rattle.form.specs.declared.classes.Letter.{Letter}
use Rattle.form.specs.declared.classes.Letter.TheVariants.{Move, Line, Along, Close}
use Rattle.form.specs.declared.machine.Axis.{Axis}
use Rattle.form.specs.declared.machine.Axis.TheVariants.{X, Y, Alone}
use Rattle.form.specs.declared.machine.Mode.{Mode}
use Rattle.form.specs.declared.machine.Stage.TheVariants.{Closed, Want, Signed, Whole, Pointed, Gap, Lost}
use Rattle.form.specs.Form.{Byte, Blanks, Digits, bytes, Places, places, Tail, none, point, tail, Decimal, digits, dotted, decimal, Number, bare, signed, number, tail_point, decimal_point, has_point, Next}
use Rattle.form.specs.Form.{spaced, parted, joined, abutted, next, number_of, More, stop, more, numbers, Points, points, Drawing, move, line, along, close, commands, Text, empty, drawn, text}
use Rattle.form.specs.Machine.{at, deep, start, row_of, ends_point, ends_before, any_letter}
use Rattle.form.specs.Machine as form
use Rattle.form.proofs.Taken.{never, tail_mode, decimal_mode, number_mode}
use Rattle.values.specs.declared.events.Event.{Event}
use Rattle.values.specs.declared.events.Event.TheVariants.{EndOpen}
use Rattle.values.specs.declared.known.Known.{Known}
use Rattle.values.specs.declared.pen.Pen.{Pen}
use Rattle.values.specs.Known.{nothing_known, with_pen, taken_of}
use Rattle.values.specs.Events.{put, number_at, command_of}
use Rattle.values.specs.Pen.{is_outside, coord_of, placed_of, lettered_of}
use Rattle.values.specs.State.{settle_of, settle_if, called_by, in_turn, events_from}
use Rattle.values.specs.Meaning.{tail_digits, whole_digits, fraction_digits, size_of, minus_of, number_float, placed_by, number_events, more_events, point_events, command_events, events_of}
use Rattle.values.proofs.Exact.{places_of, places_is, judged_number, float_is}

abbrev known : Pen → Bool → ℕ → ℕ → ℕ → Known
known p g w f i = record { pen = p; minus = g; whole = w; fraction = f; place = i }

module _ (n : ℕ) where
  -- the state in its two parts
  abbrev run : Mode → Known → List ℕ → List Event
  run m v s = events_from n (record { mode = m; known = v }) s

  abbrev told : Mode → Known → Class → List ℕ → List ℕ → List Event → List Event
  told m v k s r es = in_turn (called_by (record { mode = m; known = v }) k (n - length s) (n - length r)) es

  abbrev then : Mode → Known → ℕ → Class → ℕ → Known
  then m v b k place = taken_of (row_of m.stage).going b k place (settle_if (ends_before (row_of m.stage).going k) m v place).known

  -- a byte of a known class
  into : {k : Class} (m : Mode) (v : Known) (b : Byte k) (r : List ℕ)
      → run m v (b.code ∷ r) ≡ told m v k (b.code ∷ r) r (run (form.next_of m k) (then m v b.code k (n - length (b.code ∷ r))) r)
  into m v b r = ap (λ k. told m v k (b.code ∷ r) r (run (form.next_of m k) (then m v b.code k (n - length (b.code ∷ r))) r)) b.kind

  -- white space
  blanks_start : (v : Known) (bs : Blanks) (r : List ℕ) → run start v (bytes bs r) ≡ run start v r
  blanks_start v [] r = refl
  blanks_start v (b ∷ bs) r = into start v b (bytes bs r) ∙ blanks_start v bs r

  blanks_closed : (v : Known) (bs : Blanks) (r : List ℕ) → run (at Closed X) v (bytes bs r) ≡ run (at Closed X) v r
  blanks_closed v [] r = refl
  blanks_closed v (b ∷ bs) r = into (at Closed X) v b (bytes bs r) ∙ blanks_closed v bs r

  blanks_want : (a : Axis) (v : Known) (bs : Blanks) (r : List ℕ) → run (at Want a) v (bytes bs r) ≡ run (at Want a) v r
  blanks_want a v [] r = refl
  blanks_want a v (b ∷ bs) r = into (at Want a) v b (bytes bs r) ∙ blanks_want a v bs r

  blanks_gap : (a : Axis) (v : Known) (bs : Blanks) (r : List ℕ) → run (at Gap (form.after a)) v (bytes bs r) ≡ run (at Gap (form.after a)) v r
  blanks_gap a v [] r = refl
  blanks_gap a v (b ∷ bs) r = into (at Gap (form.after a)) v b (bytes bs r) ∙ blanks_gap a v bs r

  -- the digits of a number
  module _ (a : Axis) (p : Pen) (g : Bool) (i : ℕ) where
    whole_run : (w f : ℕ) (ds : Digits) (r : List ℕ) → run (at Whole a) (known p g w f i) (bytes ds r) ≡ run (at Whole a) (known p g (kept_digits whole_cap w (bytes ds [])) f i) r
    whole_run w f [] r = refl
    whole_run w f (d ∷ ds) r = into (at Whole a) (known p g w f i) d (bytes ds r) ∙ whole_run (digit_of whole_cap w d.code) f ds r

    deep_run : (k w f : ℕ) (ds : Digits) → k + length ds ≤ 6 → (r : List ℕ)
        → run (deep a k) (known p g w f i) (bytes ds r) ≡ run (deep a (k + length ds)) (known p g w (kept_digits fraction_cap f (bytes ds [])) i) r
    deep_run k w f [] h r = ap (λ j. run (deep a j) (known p g w f i) r) (let e : k ≡ k + 0 = omega arith in e)
    deep_run k w f (d ∷ ds) h r =
        let u = known p g w (digit_of fraction_cap f d.code) i in
        into (deep a k) (known p g w f i) d (bytes ds r)
        ∙ ap (λ t. run (cond t (deep a (k + 1)) (at Lost a)) u (bytes ds r)) (lt-ltb k 6 (omega arith))
        ∙ deep_run (k + 1) w (digit_of fraction_cap f d.code) ds (omega arith) r
        ∙ ap (λ j. run (deep a j) (known p g w (kept_digits fraction_cap (digit_of fraction_cap f d.code) (bytes ds [])) i) r) (let e : k + 1 + length ds ≡ k + suc (length ds) = omega arith in e)

    places_run : (w : ℕ) (ds : Places) (r : List ℕ)
        → run (at Pointed a) (known p g w 0 i) (places ds r) ≡ run (deep a (1 + length ds.others)) (known p g w (kept_digits fraction_cap 0 (places ds [])) i) r
    places_run w ds r =
        into (at Pointed a) (known p g w 0 i) ds.first (bytes ds.others r)
        ∙ deep_run 1 w (digit_of fraction_cap 0 ds.first.code) ds.others (omega (arith, ds.few)) r

    tail_run : (w : ℕ) (t : Tail) (r : List ℕ) → run (at Whole a) (known p g w 0 i) (tail t r) ≡ run (tail_mode a t) (known p g w (kept_digits fraction_cap 0 (tail_digits t)) i) r
    tail_run w none r = refl
    tail_run w (point q ds) r = into (at Whole a) (known p g w 0 i) q (places ds r) ∙ places_run w ds r

    digits_run : (d : Byte Digit) (ds : Digits) (t : Tail) (r : List ℕ)
        → run (at Whole a) (known p g (digit_of whole_cap 0 d.code) 0 i) (bytes ds (tail t r))
        ≡ run (tail_mode a t) (known p g (kept_digits whole_cap 0 (d.code ∷ bytes ds [])) (kept_digits fraction_cap 0 (tail_digits t)) i) r
    digits_run d ds t r =
        whole_run (digit_of whole_cap 0 d.code) 0 ds (tail t r) ∙ tail_run (kept_digits whole_cap (digit_of whole_cap 0 d.code) (bytes ds [])) t r

    -- behind a sign
    signed_run : (d : Decimal) (r : List ℕ)
        → run (at Signed a) (known p g 0 0 i) (decimal d r) ≡ run (decimal_mode a d) (known p g (kept_digits whole_cap 0 (whole_digits d)) (kept_digits fraction_cap 0 (fraction_digits d)) i) r
    signed_run (digits d ds t) r = into (at Signed a) (known p g 0 0 i) d (bytes ds (tail t r)) ∙ digits_run d ds t r
    signed_run (dotted q ds) r = into (at Signed a) (known p g 0 0 i) q (places ds r) ∙ places_run 0 ds r

  -- a number whole, r following it
  abbrev read_behind : Pen → Number → List ℕ → Known
  read_behind p m r = known p (minus_of m) (kept_digits whole_cap 0 (whole_digits (size_of m))) (kept_digits fraction_cap 0 (fraction_digits (size_of m))) (n - length (number m r))

  want_run : (a : Axis) (v : Known) (m : Number) (r : List ℕ) → run (at Want a) v (number m r) ≡ run (number_mode a m) (read_behind v.pen m r) r
  want_run a v (bare (digits d ds t)) r =
      into (at Want a) v d (bytes ds (tail t r)) ∙ digits_run a v.pen false (n - length (number (bare (digits d ds t)) r)) d ds t r
  want_run a v (bare (dotted q ds)) r = into (at Want a) v q (places ds r) ∙ places_run a v.pen false (n - length (number (bare (dotted q ds)) r)) 0 ds r
  want_run a v (signed g d) r = into (at Want a) v g (decimal d r) ∙ signed_run a v.pen (eqb g.code 45) (n - length (number (signed g d) r)) d r

  gap_run : (a : Axis) (v : Known) (m : Number) (r : List ℕ) → run (at Gap (form.after a)) v (number m r) ≡ run (number_mode (form.after a) m) (read_behind v.pen m r) r
  gap_run a v (bare (digits d ds t)) r =
      into (at Gap (form.after a)) v d (bytes ds (tail t r)) ∙ digits_run (form.after a) v.pen false (n - length (number (bare (digits d ds t)) r)) d ds t r
  gap_run a v (bare (dotted q ds)) r = into (at Gap (form.after a)) v q (places ds r) ∙ places_run (form.after a) v.pen false (n - length (number (bare (dotted q ds)) r)) 0 ds r
  gap_run a v (signed g d) r = into (at Gap (form.after a)) v g (decimal d r) ∙ signed_run (form.after a) v.pen (eqb g.code 45) (n - length (number (signed g d) r)) d r

  -- a number of an axis with k digits after its point ends where s follows
  abbrev settled : Axis → ℕ → Known → Known
  settled a k v = (settle_of (deep a k) v 0).known

  abbrev over : Axis → ℕ → Known → List ℕ → List Event → List Event
  over a k v s es = put (settle_of (deep a k) v (n - length s)).event es

  -- a mode in which it may end, by what ends it
  record Settles (a : Axis) (h : Bool) (k : ℕ) (m : Mode) : Type 0 where
    blank : (v : Known) (b : Byte Blank) (s : List ℕ) → run m v (b.code ∷ s) ≡ over a k v (b.code ∷ s) (run (at Gap (form.after a)) (settled a k v) s)
    comma : (v : Known) (b : Byte Comma) (s : List ℕ) → run m v (b.code ∷ s) ≡ over a k v (b.code ∷ s) (run (at Want (form.after a)) (settled a k v) s)
    sign : (v : Known) (b : Byte Sign) (s : List ℕ)
        → run m v (b.code ∷ s) ≡ over a k v (b.code ∷ s) (run (at Signed (form.after a)) (known (settled a k v).pen (eqb b.code 45) 0 0 (n - length (b.code ∷ s))) s)
    dot : h ≡ true → (v : Known) (b : Byte Dot) (s : List ℕ)
        → run m v (b.code ∷ s) ≡ over a k v (b.code ∷ s) (run (at Pointed (form.after a)) (known (settled a k v).pen false 0 0 (n - length (b.code ∷ s))) s)
    letter : ends_point a ≡ true → (v : Known) {l : Letter} (b : Byte (Command l)) (s : List ℕ)
        → run m v (b.code ∷ s)
        ≡ over a k v (b.code ∷ s) (put (command_of true v.pen l (n - length s)) (run (any_letter l) (with_pen (settled a k v) (lettered_of (settled a k v).pen l b.code)) s))
    end : ends_point a ≡ true → (v : Known) → run m v [] ≡ over a k v [] (EndOpen (n + 1) ∷ [])

  -- at the end of the text nothing follows
  end_place : (a : Axis) (k : ℕ) (v : Known) → put (settle_of (deep a k) v n).event (EndOpen (n + 1) ∷ []) ≡ over a k v [] (EndOpen (n + 1) ∷ [])
  end_place a k v = ap (λ i. put (settle_of (deep a k) v i).event (EndOpen (n + 1) ∷ [])) (let e : n ≡ n - 0 = omega arith in e)

  whole_letter : (a : Axis) → ends_point a ≡ true → (v : Known) {l : Letter} (b : Byte (Command l)) (s : List ℕ)
      → run (at Whole a) v (b.code ∷ s)
      ≡ over a 0 v (b.code ∷ s) (put (command_of true v.pen l (n - length s)) (run (any_letter l) (with_pen (settled a 0 v) (lettered_of (settled a 0 v).pen l b.code)) s))
  whole_letter X e v b s = absurd (never e)
  whole_letter Y e v b s = into (at Whole Y) v b s
  whole_letter Alone e v b s = into (at Whole Alone) v b s

  whole_end : (a : Axis) → ends_point a ≡ true → (v : Known) → run (at Whole a) v [] ≡ over a 0 v [] (EndOpen (n + 1) ∷ [])
  whole_end X e v = absurd (never e)
  whole_end Y e v = end_place Y 0 v
  whole_end Alone e v = end_place Alone 0 v

  deep_letter : (k : ℕ) (a : Axis) → ends_point a ≡ true → (v : Known) {l : Letter} (b : Byte (Command l)) (s : List ℕ)
      → run (deep a k) v (b.code ∷ s)
      ≡ over a k v (b.code ∷ s) (put (command_of true v.pen l (n - length s)) (run (any_letter l) (with_pen (settled a k v) (lettered_of (settled a k v).pen l b.code)) s))
  deep_letter k X e v b s = absurd (never e)
  deep_letter k Y e v b s = into (deep Y k) v b s
  deep_letter k Alone e v b s = into (deep Alone k) v b s

  deep_end : (k : ℕ) (a : Axis) → ends_point a ≡ true → (v : Known) → run (deep a k) v [] ≡ over a k v [] (EndOpen (n + 1) ∷ [])
  deep_end k X e v = absurd (never e)
  deep_end k Y e v = end_place Y k v
  deep_end k Alone e v = end_place Alone k v

  whole_settles : (a : Axis) → Settles a false 0 (at Whole a)
  whole_settles a = record {
    blank = λ v b s. into (at Whole a) v b s;
    comma = λ v b s. into (at Whole a) v b s;
    sign = λ v b s. into (at Whole a) v b s;
    dot = λ e v b s. absurd (never e);
    letter = λ e v b s. whole_letter a e v b s;
    end = whole_end a;
  }

  deep_settles : (a : Axis) (k : ℕ) → Settles a true k (deep a k)
  deep_settles a k = record {
    blank = λ v b s. into (deep a k) v b s;
    comma = λ v b s. into (deep a k) v b s;
    sign = λ v b s. into (deep a k) v b s;
    dot = λ e v b s. into (deep a k) v b s;
    letter = λ e v b s. deep_letter k a e v b s;
    end = deep_end k a;
  }

  tail_settles : (a : Axis) (d : Byte Digit) (ds : Digits) (t : Tail) → Settles a (tail_point t) (places_of (digits d ds t)) (tail_mode a t)
  tail_settles a d ds none = whole_settles a
  tail_settles a d ds (point q fs) = deep_settles a (1 + length fs.others)

  decimal_settles : (a : Axis) (d : Decimal) → Settles a (decimal_point d) (places_of d) (decimal_mode a d)
  decimal_settles a (digits d ds t) = tail_settles a d ds t
  decimal_settles a (dotted q fs) = deep_settles a (1 + length fs.others)

  settles : (a : Axis) (m : Number) → Settles a (has_point m) (places_of (size_of m)) (number_mode a m)
  settles a (bare d) = decimal_settles a d
  settles a (signed g d) = decimal_settles a d

  -- what is read of a number is what it means
  read_number : (p : Pen) (a : Axis) (m : Number) (s : List ℕ) (es : Pen → List Event)
      → over a (places_of (size_of m)) (read_behind p m s) s (es (settled a (places_of (size_of m)) (read_behind p m s)).pen) ≡ number_events n p a m s (es (placed_by p a m))
  read_number p a m s es =
      let d = size_of m in
      let w = kept_digits whole_cap 0 (whole_digits d) in
      let f = kept_digits fraction_cap 0 (fraction_digits d) in
      let i = n - length (number m s) in
      let j = n - length s in
      let g = minus_of m in
      let result : Bool → Float → List Event = λ t c. put (number_at (t || is_outside (coord_of p a c)) i p (placed_of p a c) a j) (es (placed_of p a c)) in
      ap (λ k. result (beyond_of (millionths_of w f k)) (value_of g (millionths_of w f k))) (places_is d)
      ∙ ap (λ c. result (beyond_of (kept_of (whole_digits d) (fraction_digits d))) c) (float_is m)
      ∙ ap (λ t. result t (number_float m)) (judged_number m)

  -- the next number
  module _ (a : Axis) (h : Bool) (k : ℕ) (m : Mode) (w : Settles a h k m) (v : Known) where
    abbrev then_read : Next h → List ℕ → List Event
    then_read x r = over a k v (next x r) (run (number_mode (form.after a) (number_of x)) (read_behind (settled a k v).pen (number_of x) r) r)

    next_run : (x : Next h) (r : List ℕ) → run m v (next x r) ≡ then_read x r
    next_run (spaced b bs x) r =
        w.blank v b (bytes bs (number x r))
        ∙ ap (λ es. over a k v (b.code ∷ bytes bs (number x r)) es) (blanks_gap a (settled a k v) bs (number x r) ∙ gap_run a (settled a k v) x r)
    next_run (parted [] c cs x) r =
        w.comma v c (bytes cs (number x r))
        ∙ ap (λ es. over a k v (c.code ∷ bytes cs (number x r)) es) (blanks_want (form.after a) (settled a k v) cs (number x r) ∙ want_run (form.after a) (settled a k v) x r)
    next_run (parted (b ∷ bs) c cs x) r =
        let u = c.code ∷ bytes cs (number x r) in
        w.blank v b (bytes bs u)
        ∙ ap (λ es. over a k v (b.code ∷ bytes bs u) es)
        (blanks_gap a (settled a k v) bs u ∙ into (at Gap (form.after a)) (settled a k v) c (bytes cs (number x r))
        ∙ blanks_want (form.after a) (settled a k v) cs (number x r) ∙ want_run (form.after a) (settled a k v) x r)
    next_run (joined g d) r =
        w.sign v g (decimal d r)
        ∙ ap (λ es. over a k v (g.code ∷ decimal d r) es) (signed_run (form.after a) (settled a k v).pen (eqb g.code 45) (n - length (g.code ∷ decimal d r)) d r)
    next_run (abutted e q ds) r =
        w.dot e v q (places ds r)
        ∙ ap (λ es. over a k v (q.code ∷ places ds r) es) (places_run (form.after a) (settled a k v).pen false (n - length (q.code ∷ places ds r)) 0 ds r)

  -- a text that begins with a command or is at its end, from each mode in which one may begin: its events, inside a run or not
  record Claim (s : List ℕ) (events : Bool → Pen → List Event) : Type 0 where
    gap : (a : Axis) → ends_point a ≡ true → (v : Known) → run (at Gap (form.after a)) v s ≡ events true v.pen
    closed : (v : Known) → run (at Closed X) v s ≡ events false v.pen
    behind : (a : Axis) (h : Bool) (k : ℕ) (m : Mode) → Settles a h k m → ends_point a ≡ true → (v : Known) → run m v s ≡ over a k v s (events true (settled a k v).pen)

  abbrev Claimed : List Drawing → Type 0
  Claimed cs = Claim (commands cs []) (λ inside p. command_events n inside p cs)

  module _ (cs : List Drawing) (claim : Claimed cs) (bs : Blanks) where
    abbrev R : List ℕ
    R = bytes bs (commands cs [])

    abbrev later : Pen → List Event
    later q = command_events n true q cs

    rest_run : (cs' : Blanks) (a : Axis) (h : Bool) (k : ℕ) (m : Mode) → Settles a h k m → ends_point a ≡ true → (v : Known)
        → run m v (bytes cs' (commands cs [])) ≡ over a k v (bytes cs' (commands cs [])) (later (settled a k v).pen)
    rest_run [] a h k m w e v = claim.behind a h k m w e v
    rest_run (b ∷ ds) a h k m w e v =
        w.blank v b (bytes ds (commands cs []))
        ∙ ap (λ es. over a k v (b.code ∷ bytes ds (commands cs [])) es) (blanks_gap a (settled a k v) ds (commands cs []) ∙ claim.gap a e (settled a k v))

    more_run : (a : Axis) (h : Bool) (k : ℕ) (m : Mode) → Settles a h k m → (ms : More a h) (v : Known)
        → run m v (numbers ms R) ≡ over a k v (numbers ms R) (more_events n (settled a k v).pen ms R later)
    more_run a h k m w (stop e) v = rest_run bs a h k m w e v
    more_run a h k m w (more x ms) v =
        let p = (settled a k v).pen in
        let y = number_of x in
        let s = numbers ms R in
        next_run a h k m w v x s
        ∙ ap (λ es. over a k v (next x s) es)
        (more_run (form.after a) (has_point y) (places_of (size_of y)) (number_mode (form.after a) y) (settles (form.after a) y) ms (read_behind p y s)
        ∙ read_number p (form.after a) y s (λ q. more_events n q ms R later))

    first_run : (a : Axis) (ps : Points a) (v : Known) → run (at Want a) v (points ps R) ≡ point_events n v.pen ps R later
    first_run a ps v =
        let y = ps.first in
        let s = numbers ps.others R in
        blanks_want a v ps.lead (number y s)
        ∙ want_run a v y s
        ∙ more_run a (has_point y) (places_of (size_of y)) (number_mode a y) (settles a y) ps.others (read_behind v.pen y s)
        ∙ read_number v.pen a y s (λ q. more_events n q ps.others R later)

  -- a letter behind white space
  gap_letter : (a : Axis) → ends_point a ≡ true → (v : Known) {l : Letter} (b : Byte (Command l)) (s : List ℕ)
      → run (at Gap (form.after a)) v (b.code ∷ s) ≡ put (command_of true v.pen l (n - length s)) (run (any_letter l) (with_pen v (lettered_of v.pen l b.code)) s)
  gap_letter X e v b s = absurd (never e)
  gap_letter Y e v b s = into (at Gap (form.after Y)) v b s
  gap_letter Alone e v b s = into (at Gap (form.after Alone)) v b s

  gap_end : (a : Axis) → ends_point a ≡ true → (v : Known) → run (at Gap (form.after a)) v [] ≡ EndOpen (n + 1) ∷ []
  gap_end X e v = absurd (never e)
  gap_end Y e v = refl
  gap_end Alone e v = refl

  -- inside a run a letter's event does not ask for the pen
  same_letter : (l : Letter) (p q : Pen) (i : ℕ) → command_of true p l i ≡ command_of true q l i
  same_letter Move p q i = refl
  same_letter Line p q i = refl
  same_letter Along p q i = refl
  same_letter Close p q i = refl

  -- what comes of a letter, from each of them
  lettered : {l : Letter} (b : Byte (Command l)) (s : List ℕ) (events : Bool → Pen → List Event)
      → ((inside : Bool) (v : Known) → put (command_of inside v.pen l (n - length s)) (run (any_letter l) (with_pen v (lettered_of v.pen l b.code)) s) ≡ events inside v.pen)
      → Claim (b.code ∷ s) events
  lettered {l} b s events f = record {
    gap = λ a e v. gap_letter a e v b s ∙ f true v;
    closed = λ v. into (at Closed X) v b s ∙ f false v;
    behind = λ a h k m w e v.
        w.letter e v b s
        ∙ ap (λ x. over a k v (b.code ∷ s) (put x (run (any_letter l) (with_pen (settled a k v) (lettered_of (settled a k v).pen l b.code)) s))) (same_letter l v.pen (settled a k v).pen (n - length s))
        ∙ ap (λ es. over a k v (b.code ∷ s) es) (f true (settled a k v));
  }

  claims : (cs : List Drawing) → Claimed cs
  claims [] = record { gap = gap_end; closed = λ v. refl; behind = λ a h k m w e v. w.end e v }
  claims (move b ps bs ∷ cs) =
      let s = points ps (bytes bs (commands cs [])) in
      lettered b s (λ inside p. command_events n inside p (move b ps bs ∷ cs))
      (λ inside v. ap (λ es. put (command_of inside v.pen Move (n - length s)) es) (first_run cs (claims cs) bs X ps (with_pen v (lettered_of v.pen Move b.code))))
  claims (line b ps bs ∷ cs) =
      let s = points ps (bytes bs (commands cs [])) in
      lettered b s (λ inside p. command_events n inside p (line b ps bs ∷ cs))
      (λ inside v. ap (λ es. put (command_of inside v.pen Line (n - length s)) es) (first_run cs (claims cs) bs X ps (with_pen v (lettered_of v.pen Line b.code))))
  claims (along b ps bs ∷ cs) =
      let s = points ps (bytes bs (commands cs [])) in
      lettered b s (λ inside p. command_events n inside p (along b ps bs ∷ cs))
      (λ inside v. ap (λ es. put (command_of inside v.pen Along (n - length s)) es) (first_run cs (claims cs) bs Alone ps (with_pen v (lettered_of v.pen Along b.code))))
  claims (close b bs ∷ cs) =
      let s = bytes bs (commands cs []) in
      lettered b s (λ inside p. command_events n inside p (close b bs ∷ cs))
      (λ inside v.
      let u = with_pen v (lettered_of v.pen Close b.code) in
      ap (λ es. put (command_of inside v.pen Close (n - length s)) es) (blanks_closed u bs (commands cs []) ∙ (claims cs).closed u))

  -- the machine calls for what the text means
  pub means : (t : Text) → events_from n (record { mode = start; known = nothing_known }) (text t) ≡ events_of n t
  means (empty bs) = blanks_start nothing_known bs []
  means (drawn bs b ps cs ds) =
      let s = points ps (bytes cs (commands ds [])) in
      blanks_start nothing_known bs (b.code ∷ s)
      ∙ into start nothing_known b s
      ∙ first_run ds (claims ds) cs X ps (with_pen nothing_known (lettered_of nothing_known.pen Move b.code))
