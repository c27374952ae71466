-- Triangles, and the list of numbers that spells them: of triangles with demand 3's facts the list is sound, and attached. Assumes nothing.
use Prim.Native.Nat.{ℕ, zero, suc, ◌+◌, ◌*◌, ◌<◌}
use mathlib.Core.Path.{◌≡◌, refl, subst}
use mathlib.Core.Bool.{Bool, true, false, cond}
use mathlib.Core.List.{List, [], ◌∷◌}
use mathlib.Core.Logic.{◌⊎◌, inl, inr}
use native.Mathlib.Omega.{arith}
use lib.Dec.{eqb}
use lib.ListN.{length, get_or}
use borrow.Author.Tests.{eqb-true}
use Rattle.lists.specs.Over.{flat}
use Rattle.triangles.specs.Attached as triangles
use Rattle.triangles.specs.Attached.{first, later, Meets, Joined}
use Rattle.triangles.specs.Facts.{Own, AllOwn, in_tri, Names}
use Rattle.triangles.specs.Tri.{Tri, numbers_of}
use Rattle.inspect.specs.Faults.{triangle_count, triangle_at}
use Rattle.inspect.specs.Sound.{Has, Sound, Held, Attached}

abbrev pub list_of : List Tri → List ℕ
list_of = flat numbers_of

pub length_list : (ts : List Tri) → length (list_of ts) ≡ 3 * length ts
unfolding flat
length_list [] = refl
length_list (t ∷ ts) = omega (arith, length_list ts)

pub count_list : (ts : List Tri) → triangle_count (list_of ts) ≡ length ts
count_list ts = omega (arith, length_list ts)

-- ---- the t-th triangle of the list is the t-th
pub at_zero : (t : Tri) (ts : List Tri) → triangle_at (list_of (t ∷ ts)) 0 ≡ t
unfolding triangle_at flat
at_zero t ts = refl

pub at_suc : (t : Tri) (ts : List Tri) (k : ℕ) → triangle_at (list_of (t ∷ ts)) (suc k) ≡ triangle_at (list_of ts) k
unfolding triangle_at flat
at_suc t ts k =
    let e : 3 * suc k ≡ suc (suc (suc (3 * k))) = omega arith in
    let f : suc (suc (suc (3 * k))) + 1 ≡ suc (suc (suc (3 * k + 1))) = omega arith in
    let g : suc (suc (suc (3 * k))) + 2 ≡ suc (suc (suc (3 * k + 2))) = omega arith in
    rw (e, f, g)

pub own_at : (lo hi : ℕ) (ts : List Tri) → AllOwn lo hi ts → (k : ℕ) → k < length ts → Own lo hi (triangle_at (list_of ts) k)
own_at lo hi [] own k h = absurd (omega arith)
own_at lo hi (t ∷ ts) own zero h = rw (at_zero t ts) own.0
own_at lo hi (t ∷ ts) own (suc k) h = rw (at_suc t ts k) (own_at lo hi ts own.1 k (omega arith))

-- ---- the first question
below : (lo hi : ℕ) (ts : List Tri) → AllOwn lo hi ts → (i : ℕ) → i < length (list_of ts) → get_or (list_of ts) i 0 < hi
unfolding flat
below lo hi [] own i h = absurd (omega arith)
below lo hi (t ∷ ts) own zero h = own.0.in_a.1
below lo hi (t ∷ ts) own (suc zero) h = own.0.in_b.1
below lo hi (t ∷ ts) own (suc (suc zero)) h = own.0.in_c.1
below lo hi (t ∷ ts) own (suc (suc (suc i))) h = below lo hi ts own.1 i (omega arith)

has : (x : ℕ) (ts : List Tri) → Names x ts → Has x (list_of ts)
unfolding flat in_tri
has x [] n = elim n [ ]
has x (t ∷ ts) (Names.here e) = go (eqb t.a x) refl (eqb t.b x) refl (eqb t.c x) refl e where
  go : (p : Bool) → eqb t.a x ≡ p → (q : Bool) → eqb t.b x ≡ q → (r : Bool) → eqb t.c x ≡ r → ◌≡◌ {A = ℕ} (cond p 1 (cond q 1 (cond r 1 0))) 1 → Has x (list_of (t ∷ ts))
  go true f q g r h e = record { at = 0; low = omega arith; is = eqb-true t.a x f }
  go false f true g r h e = record { at = 1; low = omega arith; is = eqb-true t.b x g }
  go false f false g true h e = record { at = 2; low = omega arith; is = eqb-true t.c x h }
  go false f false g false h e = absurd (omega arith)
has x (t ∷ ts) (Names.there n) = let w = has x ts n in record { at = suc (suc (suc w.at)); low = omega (arith, w.low); is = w.is }

pub own_sound : (count : ℕ) (ts : List Tri) → AllOwn 0 count ts → ((x : ℕ) → x < count → Names x ts) → Sound count (list_of ts)
own_sound count ts own named =
    record {
      threes = omega (arith, length_list ts);
      below = below 0 count ts own;
      differ = λ t h. let o = own_at 0 count ts own t (subst (λ (n : ℕ). t < n) (count_list ts) h) in record { ab = o.ab; bc = o.bc; ac = o.ac };
      named = λ v h. has v ts (named v h);
    }

-- ---- the second: the k-th of ts, behind those seen, meets one of these or is held by an earlier one of ts
abbrev Sits : List Tri → List Tri → ℕ → Type 0
Sits seen ts k = Meets (triangle_at (list_of ts) k) seen ⊎ Held (list_of ts) k

-- the last one seen may as well stand in front
sits_cons : (seen : List Tri) (t : Tri) (ts : List Tri) (k : ℕ) → Sits (t ∷ seen) ts k → Sits seen (t ∷ ts) (suc k)
sits_cons seen t ts k (inl m) = go m.has where
  go : triangles.Has m.with (t ∷ seen) → Sits seen (t ∷ ts) (suc k)
  go (first e) = inr (record { by = 0; earlier = omega arith; two = rw (at_zero t ts, at_suc t ts k, e) m.two })
  go (later h) = inl (record { with = m.with; has = h; two = rw (at_suc t ts k) m.two })
sits_cons seen t ts k (inr w) = inr (record { by = suc w.by; earlier = omega (arith, w.earlier); two = rw (at_suc t ts w.by, at_suc t ts k) w.two })

attached_sits : (seen ts : List Tri) → triangles.Attached seen ts → (k : ℕ) → k < length ts → Sits seen ts k
attached_sits seen [] a k h = absurd (omega arith)
attached_sits seen (t ∷ ts) a zero h = inl (rw (at_zero t ts) a.0)
attached_sits seen (t ∷ ts) a (suc k) h = sits_cons seen t ts k (attached_sits (t ∷ seen) ts a.1 k (omega arith))

pub joined_attached : (ts : List Tri) → Joined ts → Attached (list_of ts)
joined_attached ts join zero low h = absurd (omega arith)
joined_attached [] join (suc k) low h = absurd (omega (arith, count_list []))
joined_attached (t ∷ ts) join (suc k) low h = go (sits_cons [] t ts k (attached_sits (t ∷ []) ts join k (omega (arith, count_list (t ∷ ts))))) where
  go : Sits [] (t ∷ ts) (suc k) → Held (list_of (t ∷ ts)) (suc k)
  go (inl m) = let none : triangles.Has m.with [] → ⊥ = elim [ ] in absurd (none m.has)
  go (inr w) = w
