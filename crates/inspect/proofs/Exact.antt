-- Both questions are answered 0 exactly where they are so. Assumes nothing.
use Prim.Native.Nat.{ℕ, zero, suc, ◌<◌}
use mathlib.Core.Path.{◌≡◌, refl, ap, sym, ◌∙◌}
use mathlib.Core.Bool.{Bool, true, false, not, cond}
use mathlib.Core.List.{List}
use native.Mathlib.Omega.{arith}
use lib.Dec.{eqb}
use lib.ListN.{length, get_or}
use borrow.Author.Tests.{eq-eqb, ne_eqb, lt-leb, eqb-true, eqb-false, leb-false, lt-ltb, not-false}
use Rattle.refusals.specs.Numbers.{not_attached}
use Rattle.refusals.specs.declared.Verdict.{Verdict}
use Rattle.triangles.specs.Facts.{shared}
use Rattle.triangles.specs.Tri.{Tri}
use Rattle.inspect.specs.Answer.{sound, attached_of, check_of, check_attached_of}
use Rattle.inspect.specs.Faults.{triangle_count, triangle_at, too_large, alike, two_alike_in, names, unnamed, touches, loose}
use Rattle.inspect.specs.First.{some}
use Rattle.inspect.specs.Sound.{Has, Differ, Sound, Held, Attached}
use Rattle.inspect.proofs.Firsts.{some_at, some_is}
use Rattle.inspect.proofs.Judging.{Passed, passed_on, has_passed, clear, is_free}

-- ---- each test, and what it asks
differ_clear : (t : Tri) → Differ t → two_alike_in t ≡ false
unfolding two_alike_in
differ_clear t d = rw (ne_eqb t.a t.b d.ab, ne_eqb t.b t.c d.bc, ne_eqb t.a t.c d.ac)

clear_differ : (t : Tri) → two_alike_in t ≡ false → Differ t
unfolding two_alike_in
clear_differ t e = go (eqb t.a t.b) refl (eqb t.b t.c) refl e where
  go : (p : Bool) → eqb t.a t.b ≡ p → (q : Bool) → eqb t.b t.c ≡ q → cond p true (cond q true (eqb t.a t.c)) ≡ false → Differ t
  go true f q g z = absurd (let y : ◌≡◌ {A = ℕ} 0 1 = cc in omega arith)
  go false f true g z = absurd (let y : ◌≡◌ {A = ℕ} 0 1 = cc in omega arith)
  go false f false g z = record { ab = eqb-false t.a t.b f; bc = eqb-false t.b t.c g; ac = eqb-false t.a t.c z }

has_clear : (v : ℕ) (l : List ℕ) → Has v l → unnamed l v ≡ false
unfolding unnamed names
has_clear v l w = ap not (some_at (names l v) (length l) w.at w.low (eq-eqb (get_or l w.at 0) v w.is))

clear_has : (v : ℕ) (l : List ℕ) → unnamed l v ≡ false → Has v l
unfolding unnamed names
clear_has v l e = let s = some_is (names l v) (length l) (not-false (some (names l v) (length l)) e) in record { at = s.at; low = s.low; is = eqb-true (get_or l s.at 0) v s.is }

pub not_loose : (l : List ℕ) → loose l 0 ≡ false
unfolding loose
not_loose l = refl

pub held_clear : (l : List ℕ) (t : ℕ) → Held l t → loose l t ≡ false
unfolding loose touches
held_clear l t h =
    let two = eq-eqb (shared (triangle_at l h.by) (triangle_at l t)) 2 h.two in
    rw (lt-ltb 0 t (omega (arith, h.earlier)), some_at (touches l t) t h.by h.earlier two)

clear_held : (l : List ℕ) (t : ℕ) → 0 < t → loose l t ≡ false → Held l t
unfolding loose touches
clear_held l t low e =
    let some_touch : some (touches l t) t ≡ true = not-false (some (touches l t) t) (rw (lt-ltb 0 t low) at e) in
    let s = some_is (touches l t) t some_touch in
    record { by = s.at; earlier = s.low; two = eqb-true (shared (triangle_at l s.at) (triangle_at l t)) 2 s.is }

-- ---- all triangles but the first
pub all_held : (l : List ℕ) → Attached l → attached_of l ≡ sound
all_held l a = clear not_attached (loose l) (triangle_count l) sound (λ t h. go t h) where
  go : (t : ℕ) → t < triangle_count l → loose l t ≡ false
  go zero h = not_loose l
  go (suc t) h = held_clear l (suc t) (a (suc t) (omega arith) h)

held_all : (l : List ℕ) → attached_of l ≡ sound → Attached l
held_all l e t low h = clear_held l t low ((is_free not_attached (loose l) (triangle_count l) sound (λ z. omega arith) (ap (λ (v : Verdict). v.number) e)).free t h)

-- ---- the first question
module _ (count : ℕ) (l : List ℕ) where
  passed : Sound count l → Passed count l
  unfolding too_large alike
  passed s =
      record {
        threes = s.threes;
        large = λ i h. lt-leb count (get_or l i 0) (s.below i h);
        alike = λ t h. differ_clear (triangle_at l t) (s.differ t h);
        unnamed = λ v h. has_clear v l (s.named v h);
      }

  is_sound : Passed count l → Sound count l
  unfolding too_large alike
  is_sound p =
      record {
        threes = p.threes;
        below = λ i h. leb-false count (get_or l i 0) (p.large i h);
        differ = λ t h. clear_differ (triangle_at l t) (p.alike t h);
        named = λ v h. clear_has v l (p.unnamed v h);
      }

  pub sound_passes : Sound count l → check_of count l ≡ sound
  sound_passes s = passed_on count l sound (passed s)

  pub passes_sound : check_of count l ≡ sound → Sound count l
  passes_sound e = is_sound (has_passed count l sound (ap (λ (v : Verdict). v.number) e))

  -- ---- the second
  pub after_sound : Sound count l → check_attached_of count l ≡ attached_of l
  after_sound s = passed_on count l (attached_of l) (passed s)

  pub attached_passes : Sound count l → Attached l → check_attached_of count l ≡ sound
  attached_passes s a = after_sound s ∙ all_held l a

  pub passes_attached : check_attached_of count l ≡ sound → Sound count l × Attached l
  passes_attached e =
      let p = has_passed count l (attached_of l) (ap (λ (v : Verdict). v.number) e) in
      let on : attached_of l ≡ sound = sym (passed_on count l (attached_of l) p) ∙ e in
      (is_sound p, held_all l on)
