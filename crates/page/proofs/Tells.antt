-- A page tells what it is of: two meshes with the same page have the same counts, places and triangles, two refusals the same number and place, and no
-- mesh has a refusal's page. Assumes nothing.
use Prim.Native.Nat.{ℕ, zero, suc, ◌+◌, ◌*◌, ◌^◌, ◌≤◌, ◌<◌}
use mathlib.Core.Path.{◌≡◌, refl, sym, ap, ◌∙◌}
use mathlib.Core.Bool.{Bool, true, false, ◌&&◌, false≢true}
use mathlib.Core.List.{List, [], ◌∷◌, ◌++◌, append_assoc, append-nil}
use native.Mathlib.Omega.{arith}
use native.Mathlib.Decide.{dec_le}
use native.Mathlib.Nat.{lt_of_not-le}
use borrow.Author.Tests.{ltb-true}
use lib.Dec.{T, ltb, lit≤}
use lib.Ieee.{Float, nan, binary32, fits, of_bits}
use lib.ListN.{drop, get_or}
use Rattle.lines.specs.Digits.{digit_of, are_digits, spelt, decimal_of}
use Rattle.lines.specs.Floats.{float_hex}
use Rattle.lines.proofs.Back.{decimal_digits, decimal_back, float_digits, float_back}
use Rattle.page.specs.Page.{vertex_line, triangle_line, lines_to, mesh_page, refused_page}

-- ---- a word, and what stands behind it
-- a word of digits ends before the first byte that is none
module _ (base : ℕ) (most : base ≤ 16) (end : ℕ) (none : digit_of end ≡ 16) (a b : List ℕ) where
  no_digit : (c : ℕ) (w : List ℕ) → are_digits base (c ∷ w) ≡ true → end ≡ c → ⊥
  unfolding are_digits
  no_digit c w d e = go (ltb (digit_of c) base) (ltb-true (digit_of c) base) d
    where
      go : (t : Bool) → (t ≡ true → digit_of c < base) → t && are_digits base w ≡ true → ⊥
      go true h d = let m = h refl in let n = ap digit_of e in omega arith
      go false h d = false≢true d

  rest_digits : (c : ℕ) (w : List ℕ) → are_digits base (c ∷ w) ≡ true → are_digits base w ≡ true
  unfolding are_digits
  rest_digits c w d = go (ltb (digit_of c) base) d
    where
      go : (t : Bool) → t && are_digits base w ≡ true → are_digits base w ≡ true
      go true d = d
      go false d = absurd (false≢true d)

  word_told : (w v : List ℕ) → are_digits base w ≡ true → are_digits base v ≡ true → w ++ (end ∷ a) ≡ v ++ (end ∷ b) → (w ≡ v) × (a ≡ b)
  word_told [] [] d e h = (refl, cc)
  word_told [] (k ∷ v) d e h = absurd (no_digit k v e (cc))
  word_told (c ∷ w) [] d e h = absurd (no_digit c w d (cc))
  word_told (c ∷ w) (k ∷ v) d e h =
      let t : w ++ (end ∷ a) ≡ v ++ (end ∷ b) = cc in
      let r = word_told w v (rest_digits c w d) (rest_digits k v e) t in
      let q : c ≡ k = cc in
      (rw (q, r.0), r.1)

-- a space and a line feed are no digits
space_none : digit_of 32 ≡ 16
unfolding digit_of
space_none = refl

feed_none : digit_of 10 ≡ 16
unfolding digit_of
feed_none = refl

decimal_told : (end : ℕ) → digit_of end ≡ 16 → (n m : ℕ) → n < 2 ^ 64 → m < 2 ^ 64 → (a b : List ℕ) → decimal_of n ++ (end ∷ a) ≡ decimal_of m ++ (end ∷ b) → (n ≡ m) × (a ≡ b)
decimal_told end none n m h k a b e =
    let r = word_told 10 (lit≤ tt) end none a b (decimal_of n) (decimal_of m) (decimal_digits n) (decimal_digits m) e in
    (sym (decimal_back n h) ∙ ap (spelt 10 0) r.0 ∙ decimal_back m k, r.1)

float_told : (end : ℕ) → digit_of end ≡ 16 → (x y : Float) → T (fits binary32 x) → T (fits binary32 y) → (a b : List ℕ) → float_hex x ++ (end ∷ a) ≡ float_hex y ++ (end ∷ b) → (x ≡ y) × (a ≡ b)
float_told end none x y h k a b e =
    let r = word_told 16 (lit≤ tt) end none a b (float_hex x) (float_hex y) (float_digits x) (float_digits y) e in
    (sym (float_back x h) ∙ ap (λ (w : List ℕ). of_bits binary32 (spelt 16 0 w)) r.0 ∙ float_back y k, r.1)

-- ---- lines
lines_told : {P : ℕ → Type 0} (f g : ℕ → List ℕ) → ((i : ℕ) (a b : List ℕ) → f i ++ a ≡ g i ++ b → P i × (a ≡ b))
    → (n : ℕ) (a b : List ℕ) → lines_to f n ++ a ≡ lines_to g n ++ b → ((i : ℕ) → i < n → P i) × (a ≡ b)
unfolding lines_to
lines_told f g told zero a b e = (λ i h. absurd (omega arith), e)
lines_told {P} f g told (suc n) a b e =
    let r = lines_told f g told n (f n ++ a) (g n ++ b) (simp append_assoc at e) in
    let q = told n a b r.1 in
    (λ i h. by i h (dec_le n i) r.0 q.0, q.1)
  where
    by : (i : ℕ) → i < suc n → Dec (n ≤ i) → ((i : ℕ) → i < n → P i) → P n → P i
    by i h (yes m) f p = let e : n ≡ i = omega arith in rw e at p
    by i h (no m) f p = f i (lt_of_not-le m)

abbrev pub SamePlace : List Float → List Float → ℕ → Type 0
SamePlace vs us i = (get_or vs (5 * i) nan ≡ get_or us (5 * i) nan) × (get_or vs (5 * i + 1) nan ≡ get_or us (5 * i + 1) nan)

abbrev pub SameTriangle : List ℕ → List ℕ → ℕ → Type 0
SameTriangle ts ss i = (get_or ts (3 * i) 0 ≡ get_or ss (3 * i) 0) × (get_or ts (3 * i + 1) 0 ≡ get_or ss (3 * i + 1) 0) × (get_or ts (3 * i + 2) 0 ≡ get_or ss (3 * i + 2) 0)

-- every element is of its type
abbrev pub AreFloats : List Float → Type 0
AreFloats vs = (i : ℕ) → T (fits binary32 (get_or vs i nan))

abbrev pub AreNumbers : List ℕ → Type 0
AreNumbers ts = (i : ℕ) → get_or ts i 0 < 2 ^ 64

vertex_told : (vs us : List Float) → AreFloats vs → AreFloats us → (i : ℕ) (a b : List ℕ) → vertex_line vs i ++ a ≡ vertex_line us i ++ b → SamePlace vs us i × (a ≡ b)
vertex_told vs us f g i a b e =
    let p = float_told 32 space_none _ _ (f (5 * i)) (g (5 * i)) _ _ (simp append_assoc at e) in
    let q = float_told 10 feed_none _ _ (f (5 * i + 1)) (g (5 * i + 1)) _ _ p.1 in
    ((p.0, q.0), q.1)

triangle_told : (ts ss : List ℕ) → AreNumbers ts → AreNumbers ss → (i : ℕ) (a b : List ℕ) → triangle_line ts i ++ a ≡ triangle_line ss i ++ b → SameTriangle ts ss i × (a ≡ b)
triangle_told ts ss f g i a b e =
    let p = decimal_told 32 space_none _ _ (f (3 * i)) (g (3 * i)) _ _ (simp append_assoc at e) in
    let q = decimal_told 32 space_none _ _ (f (3 * i + 1)) (g (3 * i + 1)) _ _ p.1 in
    let r = decimal_told 10 feed_none _ _ (f (3 * i + 2)) (g (3 * i + 2)) _ _ q.1 in
    ((p.0, q.0, r.0), r.1)

-- ---- pages
pub record SameMesh (n m k l : ℕ) (vs us : List Float) (ts ss : List ℕ) : Type 0 where
  pub vertices : n ≡ k
  pub triangles : m ≡ l
  pub places : (i : ℕ) → i < n → SamePlace vs us i
  pub numbers : (i : ℕ) → i < m → SameTriangle ts ss i

pub mesh_told : (n m k l : ℕ) → n < 2 ^ 64 → m < 2 ^ 64 → k < 2 ^ 64 → l < 2 ^ 64
    → (vs us : List Float) → AreFloats vs → AreFloats us → (ts ss : List ℕ) → AreNumbers ts → AreNumbers ss
    → mesh_page n m vs ts ≡ mesh_page k l us ss → SameMesh n m k l vs us ts ss
unfolding mesh_page
mesh_told n m k l hn hm hk hl vs us fv fu ts ss ft fs e =
    let c = decimal_told 10 feed_none n k hn hk _ _ (simp append_assoc at (ap (drop 2) e)) in
    let v = lines_told (vertex_line vs) (vertex_line us) (vertex_told vs us fv fu) n _ _ (rw (← c.0) at c.1) in
    let d = decimal_told 10 feed_none m l hm hl _ _ (ap (drop 2) v.1) in
    let t = lines_told (triangle_line ts) (triangle_line ss) (triangle_told ts ss ft fs) m [] [] (simp append-nil (rw (← d.0) at d.1)) in
    record { vertices = c.0; triangles = d.0; places = v.0; numbers = t.0 }

pub refused_told : (k p l q : ℕ) → k < 2 ^ 64 → p < 2 ^ 64 → l < 2 ^ 64 → q < 2 ^ 64 → refused_page k p ≡ refused_page l q → (k ≡ l) × (p ≡ q)
refused_told k p l q hk hp hl hq e =
    let c = decimal_told 32 space_none k l hk hl _ _ (ap (drop 8) e) in
    let d = decimal_told 10 feed_none p q hp hq _ _ c.1 in
    (c.0, d.0)

pub never_both : (n m k p : ℕ) (vs : List Float) (ts : List ℕ) → mesh_page n m vs ts ≡ refused_page k p → ⊥
unfolding mesh_page
never_both n m k p vs ts e = let z : ◌≡◌ {A = ℕ} 118 114 = cc in omega arith
