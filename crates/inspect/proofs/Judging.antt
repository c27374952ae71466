-- The answer, fault by fault. Assumes nothing.
use Prim.Native.Nat.{ℕ, zero, suc, ◌+◌, ◌-◌, ◌%◌, ◌≤◌, ◌<◌}
use mathlib.Core.Path.{◌≡◌, refl, sym, ap, ◌∙◌}
use mathlib.Core.Bool.{Bool, true, false, not, ◌&&◌, cond}
use mathlib.Core.List.{List}
use native.Mathlib.Omega.{arith}
use lib.Dec.{leb, ltb, eqb}
use lib.ListN.{length, get_or}
use borrow.Author.Tests.{eq-eqb, ne_eqb, lt-ltb, le-ltb, le-leb, lt-leb, eqb-true, ltb-false}
use Rattle.std.specs.Prelude.{position}
use Rattle.std.specs.List.{position_or_len}
use Rattle.std.proofs.lemmas.List.Recursion.{is_position_or_len}
use Rattle.refusals.specs.Numbers.{Meaning, number_of, verdict, list_length, number_too_large, two_alike, vertex_unnamed}
use Rattle.refusals.specs.declared.Verdict.{Verdict}
use Rattle.triangles.specs.Facts.{shared}
use Rattle.triangles.specs.Tri.{Tri}
use Rattle.inspect.specs.Answer.{sound, fault_of, first_fault, faults_then}
use Rattle.inspect.specs.Faults.{triangle_count, triangle_at, too_large, alike, unnamed, touches, loose}
use Rattle.inspect.specs.First.{first, some}
use Rattle.inspect.specs.declared.answer.Fault.{Fault}
use Rattle.inspect.specs.declared.answer.Fault.TheVariants.{Length, TooLarge, Alike, Unnamed, NotAttached}
use Rattle.inspect.proofs.Firsts.{Clear, place, first_none, first_clear, some_at, some_clear}

-- ---- one test: it found its place, or none
module _ (fault : Meaning) (test : ℕ → Bool) (n : ℕ) where
  pub found : (k : ℕ) (next : Verdict) → k ≡ first test n → k < n → verdict fault k ≡ first_fault fault test n next
  unfolding first_fault
  found k next e h = rw (lt-ltb (first test n) n (omega arith)) (ap (verdict fault) e)

  pub none : (k : ℕ) (next : Verdict) → k ≡ first test n → n ≤ k → first_fault fault test n next ≡ next
  unfolding first_fault
  none k next e h = rw (le-ltb (first test n) n (omega arith))

  pub clear : (next : Verdict) → Clear test n → first_fault fault test n next ≡ next
  clear next c = none n next (first_none test n c) (omega arith)

  -- a fault's number is none of 0, so an answer of 0 is the next's, whatever that is
  pub record Free (next : Verdict) : Type 0 where
    pub free : Clear test n
    pub on : next.number ≡ 0

  pub is_free : (next : Verdict) → (number_of fault ≡ 0 → ⊥) → (first_fault fault test n next).number ≡ 0 → Free next
  unfolding first_fault
  is_free next p e = go (ltb (first test n) n) refl e where
    go : (b : Bool) → ltb (first test n) n ≡ b → (cond b (verdict fault (first test n)) next).number ≡ 0 → Free next
    go true f g = absurd (p g)
    go false f g = record { free = λ k h. first_clear test n k (omega (arith, ltb-false (first test n) n f)); on = g }

-- ---- the four tests
module _ (count : ℕ) (l : List ℕ) where
  pub record Passed : Type 0 where
    pub threes : length l % 3 ≡ 0
    pub large : Clear (too_large count l) (length l)
    pub alike : Clear (alike l) (triangle_count l)
    pub unnamed : Clear (unnamed l) count

  module _ (next : Verdict) where
    abbrev unnamed_then : Verdict
    unnamed_then = first_fault vertex_unnamed (unnamed l) count next

    abbrev alike_then : Verdict
    alike_then = first_fault two_alike (alike l) (triangle_count l) unnamed_then

    abbrev large_then : Verdict
    large_then = first_fault number_too_large (too_large count l) (length l) alike_then

    pub says_length : (length l % 3 ≡ 0 → ⊥) → verdict list_length 0 ≡ faults_then count l next
    unfolding faults_then
    says_length h = rw (ne_eqb (length l % 3) 0 h)

    -- what a test that found none leaves to the next
    pub then_large : (r : Verdict) → length l % 3 ≡ 0 → r ≡ large_then → r ≡ faults_then count l next
    unfolding faults_then
    then_large r h e = rw (eq-eqb (length l % 3) 0 h) e

    pub then_alike : (k : ℕ) (r : Verdict) → k ≡ first (too_large count l) (length l) → length l ≤ k → r ≡ alike_then → r ≡ large_then
    then_alike k r e h f = f ∙ sym (none number_too_large (too_large count l) (length l) k alike_then e h)

    pub then_unnamed : (k : ℕ) (r : Verdict) → k ≡ first (alike l) (triangle_count l) → triangle_count l ≤ k → r ≡ unnamed_then → r ≡ alike_then
    then_unnamed k r e h f = f ∙ sym (none two_alike (alike l) (triangle_count l) k unnamed_then e h)

    pub then_next : (k : ℕ) → k ≡ first (unnamed l) count → count ≤ k → next ≡ unnamed_then
    then_next k e h = sym (none vertex_unnamed (unnamed l) count k next e h)

    pub passed_on : Passed → faults_then count l next ≡ next
    passed_on p =
        sym (then_large next p.threes
        (then_alike (length l) next (first_none (too_large count l) (length l) p.large) (omega arith)
        (then_unnamed (triangle_count l) next (first_none (alike l) (triangle_count l) p.alike) (omega arith)
        (then_next count (first_none (unnamed l) count p.unnamed) (omega arith)))))

    -- 0 is answered only where all four found none
    pub has_passed : (faults_then count l next).number ≡ 0 → Passed
    unfolding faults_then
    has_passed e = go (eqb (length l % 3) 0) refl e where
      go : (b : Bool) → eqb (length l % 3) 0 ≡ b → (cond (not b) (verdict list_length 0) large_then).number ≡ 0 → Passed
      go false f g = absurd (omega arith)
      go true f g =
          let s1 = is_free number_too_large (too_large count l) (length l) alike_then (λ z. omega arith) g in
          let s2 = is_free two_alike (alike l) (triangle_count l) unnamed_then (λ z. omega arith) s1.on in
          let s3 = is_free vertex_unnamed (unnamed l) count next (λ z. omega arith) s2.on in
          record { threes = eqb-true (length l % 3) 0 f; large = s1.free; alike = s2.free; unnamed = s3.free }

  -- ---- what comes next matters exactly where the four found none
  one_same : (fault : Meaning) (test : ℕ → Bool) (n : ℕ) (a b r : Verdict) → (r ≡ a → r ≡ b) → r ≡ first_fault fault test n a → r ≡ first_fault fault test n b
  unfolding first_fault
  one_same fault test n a b r same e = go (ltb (first test n) n) e where
    go : (t : Bool) → r ≡ cond t (verdict fault (first test n)) a → r ≡ cond t (verdict fault (first test n)) b
    go true f = f
    go false f = same f

  pub faulty_same : (next r : Verdict) → r ≡ faults_then count l sound → (r.number ≡ 0 → ⊥) → r ≡ faults_then count l next
  unfolding faults_then
  faulty_same next r e h = go (not (eqb (length l % 3) 0)) e where
    after : r ≡ large_then sound → r ≡ large_then next
    after =
        one_same number_too_large (too_large count l) (length l) (alike_then sound) (alike_then next) r
        (one_same two_alike (alike l) (triangle_count l) (unnamed_then sound) (unnamed_then next) r
        (one_same vertex_unnamed (unnamed l) count sound next r (λ f. absurd (h (ap (λ (v : Verdict). v.number) f)))))

    go : (b : Bool) → r ≡ cond b (verdict list_length 0) (large_then sound) → r ≡ cond b (verdict list_length 0) (large_then next)
    go true f = f
    go false f = after f

  pub sound_then : (next r : Verdict) → r ≡ faults_then count l sound → r.number ≡ 0 → next ≡ faults_then count l next
  sound_then next r e z = sym (passed_on next (has_passed sound (sym (ap (λ (v : Verdict). v.number) e) ∙ z)))

-- ---- the first number that is too large, as std finds it
pub large_place : (count : ℕ) (l : List ℕ) → position (leb count) l ≡ place (too_large count l) (length l)
unfolding first too_large
large_place count l = rw same
  where
    same : position_or_len (leb count) l ≡ first (too_large count l) (length l)
    same = sym (is_position_or_len (λ l. first (too_large count l) (length l)) (leb count) refl
        (λ x xs. let e : suc (first (too_large count xs) (length xs)) ≡ 1 + first (too_large count xs) (length xs) = omega arith in ap (λ (n : ℕ). cond (leb count x) 0 n) e) l)

-- ---- what the code's tests say of a number, and of two triangles
pub is_large_lem : (count : ℕ) (l : List ℕ) (i r : ℕ) → r ≡ get_or l i 0 → count ≤ r → too_large count l i ≡ true
unfolding too_large
is_large_lem count l i r e h = rw (← e) (le-leb count r h)

pub not_large : (count : ℕ) (l : List ℕ) (i r : ℕ) → r ≡ get_or l i 0 → r < count → too_large count l i ≡ false
unfolding too_large
not_large count l i r e h = rw (← e) (lt-leb count r h)

pub is_touching : (l : List ℕ) (t s : ℕ) (u e : Tri) (r : ℕ) → e ≡ triangle_at l s → u ≡ triangle_at l t → r ≡ shared e u → r ≡ 2 → touches l t s ≡ true
unfolding touches
is_touching l t s u e r pe pu pr two = rw (← pe, ← pu, ← pr, two)

pub not_touching : (l : List ℕ) (t s : ℕ) (u e : Tri) (r : ℕ) → e ≡ triangle_at l s → u ≡ triangle_at l t → r ≡ shared e u → (r ≡ 2 → ⊥) → touches l t s ≡ false
unfolding touches
not_touching l t s u e r pe pu pr two = rw (← pe, ← pu, ← pr) (ne_eqb r 2 two)

-- ---- the search for an earlier triangle, backwards: what is left to ask is of those before s
pub held_back : (l : List ℕ) (t s : ℕ) → 0 < s → touches l t (s - 1) ≡ false → some (touches l t) s ≡ some (touches l t) (s - 1)
unfolding some
held_back l t zero h e = absurd (omega arith)
held_back l t (suc s) h e = let n : suc s - 1 ≡ s = omega arith in rw (n, rw n at e)

module _ (l : List ℕ) (t s : ℕ) where
  pub held_here : 0 < s → s ≤ t → some (touches l t) t ≡ some (touches l t) s → touches l t (s - 1) ≡ true → false ≡ loose l t
  unfolding loose
  held_here h high e two = rw (lt-ltb 0 t (omega arith), e, some_at (touches l t) s (s - 1) (omega arith) two)

  pub held_none : s ≤ 0 → some (touches l t) t ≡ some (touches l t) s → ltb 0 t ≡ loose l t
  unfolding loose
  held_none h e = rw (e, some_clear (touches l t) s (λ k g. absurd (omega arith))) (go t) where
    go : (t : ℕ) → ltb 0 t ≡ ltb 0 t && true
    go zero = refl
    go (suc t) = rw (lt-ltb 0 (suc t) (omega arith))

-- ---- a fault's number is not 0
pub is_faulty : (f : Fault) → (fault_of f).number ≡ 0 → ⊥
is_faulty Length e = absurd (omega arith)
is_faulty (TooLarge i) e = absurd (omega arith)
is_faulty (Alike t) e = absurd (omega arith)
is_faulty (Unnamed v) e = absurd (omega arith)
is_faulty (NotAttached t) e = absurd (omega arith)
