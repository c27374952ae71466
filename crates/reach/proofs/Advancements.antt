-- Advancements along a run: a leg adds its length, so that they never fall, and behind at most 65,536 legs of 131,072 they are finite. Assumes nothing.
use mathlib.Core.Path.{◌≡◌, refl, sym, subst}
use Prim.Native.Nat.{ℕ, ◌+◌, ◌*◌, ◌^◌, ◌≤◌, ◌<◌}
use mathlib.Core.Bool.{false}
use mathlib.Core.List.{List, [], ◌∷◌, ◌++◌}
use native.Mathlib.Nat.{le_trans, mul-le-mul_right}
use native.Mathlib.Omega.{arith}
use lib.Dec.{lit≤}
use lib.Ieee.{Float, of_bits}
use lib.Ieee.Exact.{HasValue}
use Rattle.plane.specs.F32.{◌⊕◌, f32}
use Rattle.lists.specs.All.{All}
use Rattle.pieces.specs.Piece.{Vertex}
use Rattle.rounding.proofs.Rounding.{rounded, rounded_le, le_rounded_again}
use Rattle.rounding.proofs.Scales.{one, one_pos}
use Rattle.rounding.proofs.Values.{add_plain}
use Rattle.rounding.proofs.Results.{power, made}

-- ---- an advancement behind k legs
mile : 131072 * one ≡ 2 ^ 166
unfolding one
mile = refl

pub record Reckoned (a : Float) (k : ℕ) : Type 0 where
  pub size : ℕ
  pub value : HasValue a false size one
  pub most : size ≤ k * (131072 * one)
  -- as an f32 it is kept by rounding
  pub keeps : (n c : ℕ) → 0 < c → size * c ≤ n → size ≤ rounded n c

pub least : (n : ℕ) → 0 ≤ n
least n = omega arith

pub zero_is : HasValue (f32 0) false 0 one
unfolding of_bits one
zero_is = (refl, refl)

abbrev pub none_yet : Reckoned (f32 0) 0
none_yet = record { size = 0; value = zero_is; most = least (0 * (131072 * one)); keeps = λ n c C h. least (rounded n c) }

pub record Rises {a : Float} {k : ℕ} (A : Reckoned a k) (b : Float) : Type 0 where
  pub next : Reckoned b (k + 1)
  pub rises : A.size ≤ next.size

pub one_leg : {a : Float} {k : ℕ} (A : Reckoned a k) (l : Float) (s : ℕ) → HasValue l false s one → s ≤ 131072 * one → k + 1 ≤ 65536 → Rises A (a ⊕ l)
one_leg {a} {k} A l s v h K =
    let m = A.size in
    let n = rounded ((m + s) * one) one in
    let z = made (a ⊕ l) false (m + s) one (2 ^ 33) one_pos (power 33 (lit≤ tt)) (add_plain a l m s one one_pos A.value v) (below m A.most) in
    record {
      next = record {
        size = n;
        value = z.value;
        most = subst (λ (x : ℕ). n ≤ (k + 1) * x) (sym mile) (rounded_le ((m + s) * one) one one_pos (k + 1) 166 (few K) (mul-le-mul_right one (subst (λ (x : ℕ). m + s ≤ (k + 1) * x) mile (longer m A.most))));
        keeps = λ i c C. le_rounded_again ((m + s) * one) one i c one_pos C;
      };
      rises = A.keeps ((m + s) * one) one one_pos (mul-le-mul_right one (more m s));
    }
  where
    more : (m s : ℕ) → m ≤ m + s
    more m s = omega arith

    longer : (m : ℕ) → m ≤ k * (131072 * one) → m + s ≤ (k + 1) * (131072 * one)
    longer m i = omega arith

    below : (m : ℕ) → m ≤ k * (131072 * one) → m + s ≤ 2 ^ 33 * one
    below m i = omega (arith, mul-le-mul_right (131072 * one) K)

    few : k + 1 ≤ 65536 → k + 1 < 2 ^ 24
    few i = omega arith

-- ---- finite, and m units or more
pub record From (m : ℕ) (a : Float) : Type 0 where
  pub units : ℕ
  pub value : HasValue a false units one
  pub rises : m ≤ units
  pub most : units ≤ 2 ^ 33 * one

abbrev pub from_less : {m n : ℕ} {a : Float} → m ≤ n → From n a → From m a
from_less l f = record { units = f.units; value = f.value; rises = le_trans l f.rises; most = f.most }

abbrev pub from_none : {m : ℕ} {a : Float} → From m a → From 0 a
from_none {m} f = from_less (least m) f

pub finite : (k m : ℕ) → k ≤ 65536 → m ≤ k * (131072 * one) → m ≤ 2 ^ 33 * one
finite k m K i = omega (arith, mul-le-mul_right (131072 * one) K)

abbrev pub here : {a : Float} {k : ℕ} (A : Reckoned a k) → k ≤ 65536 → From A.size a
here {a} {k} A K = record { units = A.size; value = A.value; rises = omega arith; most = finite k A.size K A.most }

-- ---- vertices whose advancements do not fall, from m units on
abbrev pub Rising : ℕ → List Vertex → Type 0
Rising m [] = Unit {0}
Rising m (v ∷ vs) = (f : From m v.advancement) × Rising f.units vs

rising_less : (m n : ℕ) (vs : List Vertex) → m ≤ n → Rising n vs → Rising m vs
rising_less m n [] l r = tt
rising_less m n (v ∷ vs) l r = (from_less l r.0, r.1)

-- some at one advancement, others behind them
pub level : (a : Float) (m : ℕ) (vs ws : List Vertex) → All (λ (v : Vertex). v.advancement ≡ a) vs → (f : From m a) → Rising f.units ws → Rising m (vs ++ ws)
level a m [] ws e f r = rising_less m f.units ws f.rises r
level a m (v ∷ vs) ws e f r = (
  record { units = f.units; value = subst (λ (x : Float). HasValue x false f.units one) (sym e.0) f.value; rises = f.rises; most = f.most },
  level a f.units vs ws e.1 (record { units = f.units; value = f.value; rises = omega arith; most = f.most }) r,
)

pub rising_from : (m : ℕ) (vs : List Vertex) → Rising m vs → All (λ (v : Vertex). From 0 v.advancement) vs
rising_from m [] r = tt
rising_from m (v ∷ vs) r = (from_none r.0, rising_from r.0.units vs r.1)
