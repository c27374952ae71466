-- The bytes of a fragment: those within the limit are passed at once, the one at the limit by itself, and those behind it add nothing. Assumes nothing.
use Prim.Native.Nat.{ℕ, suc, ◌+◌, ◌-◌, ◌≤◌, ◌<◌, min}
use mathlib.Core.Path.{◌≡◌, refl, sym, ap, ◌∙◌, subst}
use mathlib.Core.Bool.{Bool, true, false, cond}
use mathlib.Core.List.{List, [], ◌∷◌, ◌++◌}
use native.Mathlib.Omega.{arith}
use native.Mathlib.Decide.{dec_le}
use borrow.Author.Tests.{lt-ltb, le-ltb, le-leb, lt-leb}
use lib.Dec.{ltb, leb}
use lib.ListN.{length, take, drop, get_or, take-append-drop, drop_of_length-le}
use lib.Seq.{drop-cons, length-take-le}
use Rattle.form.proofs.Taken.{never}
use Rattle.reader.specs.Answer.{text_limit}
use Rattle.reader.specs.Pass.{Passed, pass_of}
use Rattle.reader.proofs.Passing.{pass_place}
use Rattle.radio.specs.declared.Radio.{Radio}
use Rattle.radio.specs.Radio.{Tuned, passed_of, tuned, is_open, at_limit, past_limit, byte_heard, heard_of}

-- an open state, by its parts
pub record Open (r : Radio) : Type 0 where
  pub running : r.closed ≡ false
  pub within : r.length ≤ suc text_limit
  pub placed : r.passage.place ≤ r.length

pub opened : (r : Radio) → is_open r ≡ true → Open r
opened r e = go r.closed refl (dec_le r.length (suc text_limit)) (dec_le r.passage.place r.length)
  where
    go : (t : Bool) → r.closed ≡ t → Dec (r.length ≤ suc text_limit) → Dec (r.passage.place ≤ r.length) → Open r
    go true q l p = absurd (never (sym (ap (λ t. cond t false (cond (ltb (text_limit + 1) r.length) false (leb r.passage.place r.length))) q) ∙ e))
    go false q (yes l) (yes p) = record { running = q; within = l; placed = p }
    go false q (no l) p =
        absurd (never (sym (ap (λ t. cond t false (cond (ltb (text_limit + 1) r.length) false (leb r.passage.place r.length))) q
        ∙ ap (λ t. cond t false (leb r.passage.place r.length)) (lt-ltb (text_limit + 1) r.length (omega arith))) ∙ e))
    go false q (yes l) (no p) =
        absurd (never (sym (ap (λ t. cond t false (cond (ltb (text_limit + 1) r.length) false (leb r.passage.place r.length))) q
        ∙ ap (λ t. cond t false (leb r.passage.place r.length)) (le-ltb (text_limit + 1) r.length (omega arith))
        ∙ lt-leb r.passage.place r.length (omega arith)) ∙ e))

pub open_is : (r : Radio) → Open r → is_open r ≡ true
open_is r o =
    ap (λ t. cond t false (cond (ltb (text_limit + 1) r.length) false (leb r.passage.place r.length))) o.running
    ∙ ap (λ t. cond t false (leb r.passage.place r.length)) (le-ltb (text_limit + 1) r.length (omega (arith, o.within)))
    ∙ le-leb r.passage.place r.length o.placed

-- within the limit
pub one : (w : Tuned) (b : ℕ) → w.radio.length < text_limit → byte_heard w b ≡ tuned (pass_of (passed_of w) (b ∷ [])) (w.radio.length + 1)
unfolding byte_heard
one w b h = ap (λ t. cond t (tuned (pass_of (passed_of w) (b ∷ [])) (w.radio.length + 1)) (past_limit w b)) (lt-ltb w.radio.length text_limit h)

pub inside : (bs : List ℕ) (w : Tuned) → w.radio.closed ≡ false → w.radio.length + length bs ≤ text_limit → heard_of w bs ≡ tuned (pass_of (passed_of w) bs) (w.radio.length + length bs)
inside [] w e h =
    let n : w.radio.length ≡ w.radio.length + 0 = omega arith in
    λ j. record { radio = record { passage = w.radio.passage; length = n j; closed = e j }; verbs = w.verbs; coords = w.coords }
inside (b ∷ bs) w e h =
    let u = tuned (pass_of (passed_of w) (b ∷ [])) (w.radio.length + 1) in
    let n : w.radio.length + 1 + length bs ≡ w.radio.length + length (b ∷ bs) = omega arith in
    ap (λ x. heard_of x bs) (one w b (omega arith)) ∙ inside bs u refl (omega arith) ∙ ap (λ k. tuned (pass_of (passed_of u) bs) k) n

-- at the limit, and behind it
pub reached : (w : Tuned) (b : ℕ) → text_limit ≤ w.radio.length → byte_heard w b ≡ past_limit w b
unfolding byte_heard
reached w b h = ap (λ t. cond t (tuned (pass_of (passed_of w) (b ∷ [])) (w.radio.length + 1)) (past_limit w b)) (le-ltb w.radio.length text_limit h)

pub past : (w : Tuned) (b : ℕ) → text_limit < w.radio.length → past_limit w b ≡ w
past w b h = ap (λ t. cond t w (tuned (pass_of (passed_of w) (at_limit b ∷ [])) (w.radio.length + 1))) (lt-ltb text_limit w.radio.length h)

pub at_limit_lem : (w : Tuned) (b : ℕ) → w.radio.length ≤ text_limit → past_limit w b ≡ tuned (pass_of (passed_of w) (at_limit b ∷ [])) (w.radio.length + 1)
at_limit_lem w b h = ap (λ t. cond t w (tuned (pass_of (passed_of w) (at_limit b ∷ [])) (w.radio.length + 1))) (le-ltb text_limit w.radio.length h)

pub behind : (bs : List ℕ) (w : Tuned) → text_limit < w.radio.length → heard_of w bs ≡ w
behind [] w h = refl
behind (b ∷ bs) w h = ap (λ x. heard_of x bs) (reached w b (omega arith) ∙ past w b h) ∙ behind bs w h

longer : (w : Tuned) (b : ℕ) → text_limit ≤ w.radio.length → text_limit < (past_limit w b).radio.length
longer w b h = go (dec_le w.radio.length text_limit)
  where
    go : Dec (w.radio.length ≤ text_limit) → text_limit < (past_limit w b).radio.length
    go (yes l) = let z = ap (λ (x : Tuned). x.radio.length) (at_limit_lem w b l) in omega arith
    go (no l) = let z = ap (λ (x : Tuned). x.radio.length) (past w b (omega arith)) in omega arith

pub across : (w : Tuned) (b : ℕ) (bs : List ℕ) → text_limit ≤ w.radio.length → heard_of w (b ∷ bs) ≡ past_limit w b
across w b bs h = ap (λ x. heard_of x bs) (reached w b h) ∙ behind bs (past_limit w b) (longer w b h)

pub heard_append : (w : Tuned) (s r : List ℕ) → heard_of w (s ++ r) ≡ heard_of (heard_of w s) r
heard_append w [] r = refl
heard_append w (b ∷ s) r = heard_append (byte_heard w b) s r

-- a fragment by its part within the limit and the byte behind that
module _ (w : Tuned) (o : Open w.radio) (f : List ℕ) (n : ℕ) (e : n ≡ min (length f) (text_limit - w.radio.length)) where
  abbrev on : Tuned
  on = tuned (pass_of (passed_of w) (take n f)) (w.radio.length + n)

  first : heard_of w f ≡ heard_of (heard_of w (take n f)) (drop n f)
  first = ap (λ l. heard_of w l) (sym (take-append-drop n f)) ∙ heard_append w (take n f) (drop n f)

  all_of_it : length (take n f) ≡ n
  all_of_it = length-take-le n f (omega arith)

  part : w.radio.length ≤ text_limit → heard_of w (take n f) ≡ on
  part h = inside (take n f) w o.running (omega (arith, all_of_it)) ∙ ap (λ k. tuned (pass_of (passed_of w) (take n f)) (w.radio.length + k)) all_of_it

  nothing : text_limit < w.radio.length → heard_of w (take n f) ≡ on
  nothing h =
      let z : n ≡ 0 = omega arith in
      behind (take n f) w h ∙ inside_none z
    where
      inside_none : n ≡ 0 → w ≡ on
      inside_none z =
          let k : w.radio.length ≡ w.radio.length + n = omega arith in
          let p : passed_of w ≡ pass_of (passed_of w) (take n f) = ap (λ m. pass_of (passed_of w) (take m f)) (sym z) in
          λ j. record { radio = record { passage = (p j).passage; length = k j; closed = o.running j }; verbs = (p j).verbs; coords = (p j).coords }

  taken : heard_of w (take n f) ≡ on
  taken = go (dec_le w.radio.length text_limit)
    where
      go : Dec (w.radio.length ≤ text_limit) → heard_of w (take n f) ≡ on
      go (yes h) = part h
      go (no h) = nothing (omega arith)

  on_open : Open on.radio
  on_open = record { running = refl; within = omega (arith, o.within); placed = omega (arith, o.placed, pass_place (passed_of w) (take n f), all_of_it) }

  -- by what each call gave
  module _ (p : Passed) (r : Radio) (ep : p ≡ pass_of (passed_of w) (take n f)) (er : r ≡ record { passage = p.passage; length = w.radio.length + n; closed = false }) where
    abbrev x : Tuned
    x = record { radio = r; verbs = p.verbs; coords = p.coords }

    on_is : x ≡ on
    on_is = ap (λ (q : Radio). record { radio = q; verbs = p.verbs; coords = p.coords }) er ∙ ap (λ (q : Passed). tuned q (w.radio.length + n)) ep

    pub on_fits : (r.passage.place ≤ r.length) × (r.length ≤ suc text_limit)
    on_fits = subst (λ (u : Tuned). (u.radio.passage.place ≤ u.radio.length) × (u.radio.length ≤ suc text_limit)) (sym on_is) (on_open.placed, on_open.within)

    pub hear_more : (d : ℕ) (q : Tuned) → n < length f → q ≡ past_limit x (get_or f n d) → q ≡ heard_of w f
    hear_more d q h g =
        let split : drop n f ≡ get_or f n d ∷ drop (suc n) f = drop-cons f n d h in
        g ∙ ap (λ u. past_limit u (get_or f n d)) on_is
        ∙ sym (first ∙ ap (λ u. heard_of u (drop n f)) taken ∙ ap (λ l. heard_of on l) split ∙ across on (get_or f n d) (drop (suc n) f) (omega arith))

    pub hear_all : length f ≤ n → x ≡ heard_of w f
    hear_all h = on_is ∙ sym (first ∙ ap (λ u. heard_of u (drop n f)) taken ∙ ap (λ l. heard_of on l) (drop_of_length-le f h))
