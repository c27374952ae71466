-- The wearing down of an accepted offset ends before its limit does. A rest of at most k quarters is at most k - 1 once a length is taken off: the
-- difference is that small, and k - 1 quarters are an f32, so rounding keeps below them. At 0 no length is left to take off. Assumes nothing.
use mathlib.Core.Path.{◌≡◌, refl, sym, ap, subst}
use Prim.Native.Nat.{ℕ, zero, suc, ◌+◌, ◌-◌, ◌*◌, ◌%◌, ◌^◌, ◌≤◌, ◌<◌}
use native.Mathlib.Nat.{le_trans, le_of_eq, le_of_lt, mul_comm, mul_assoc, mul-le-mul_right, mul-pos, mod-lt}
use native.Mathlib.Omega.{arith}
use mathlib.Core.Bool.{Bool, true, false, ◌&&◌, ◌||◌, cond, false≢true}
use mathlib.Core.List.{List, [], ◌∷◌}
use lib.Dec.{T, ltb, eqb, eqb→eq, lit≤}
use lib.Ieee.{Float, nan, inf, fin, binary32, up, down, sub, lt, eq, le, of_bits}
use lib.Ieee.Bits.{is_true}
use lib.Ieee.Fits.{and_l, and_r, down_pos}
use lib.Ieee.Exact.{HasValue}
use lib.Ieee.Positive.{num, den, den_pos, own_value, between, le→cross}
use lib.ListN.{length, get_or}
use Rattle.rounding.proofs.Rounding.{rounded, rounded_le}
use Rattle.rounding.proofs.Scales.{one, one_pos}
use Rattle.rounding.proofs.Values.{scaled_value, round_value}
use Rattle.dashes.specs.Pattern.{length_in, offset_in, lengths_in, length_at, worn_from, worn_of}
use Rattle.dashes.specs.declared.pattern.Wear.{Wear}
use Rattle.dashes.proofs.Turns.{length_at_lem}
use Rattle.stays.proofs.Compare.{sub_plain, le_values, no_more}

pub told : (t : Bool) → t ≡ true → T t
told true e = tt
told false e = absurd (false≢true e)

-- ---- a length: from 1/4 to 32,768
pub record Length (d : Float) : Type 0 where
  pub value : HasValue d false (num d) (den d)
  pub least : den d ≤ 4 * num d
  pub most : num d ≤ 32768 * den d

pub is_length : (d : Float) → length_in d ≡ true → Length d
unfolding length_in of_bits
is_length d e =
    let l = le (of_bits binary32 0x3e800000) d in
    let h = le d (of_bits binary32 0x47000000) in
    let t = told (l && h) e in
    let p = between (of_bits binary32 0x3e800000) d (of_bits binary32 0x47000000) tt tt (and_l l h t) (and_r l h t) in
    let a = le→cross (of_bits binary32 0x3e800000) d tt p (and_l l h t) in
    let b = le→cross d (of_bits binary32 0x47000000) p tt (and_r l h t) in
    record { value = own_value d p; least = small (num d) (den d) a; most = large (num d) (den d) b }
  where
    small : (x y : ℕ) → 1 * 1 * y ≤ x * 4 → y ≤ 4 * x
    small x y h = omega arith

    large : (x y : ℕ) → x * 1 ≤ 1 * 32768 * y → x ≤ 32768 * y
    large x y h = omega arith

in_list : (ds : List Float) (i : ℕ) → lengths_in ds ≡ true → i < length ds → length_in (get_or ds i nan) ≡ true
unfolding lengths_in
in_list [] i e h = absurd (omega arith)
in_list (d ∷ ds) zero e h = is_true (length_in d) (and_l (length_in d) (lengths_in ds) (told (length_in d && lengths_in ds) e))
in_list (d ∷ ds) (suc i) e h = in_list ds i (is_true (lengths_in ds) (and_r (length_in d) (lengths_in ds) (told (length_in d && lengths_in ds) e))) (omega arith)

pub length_in_lem : (ds : List Float) (i : ℕ) → lengths_in ds ≡ true → 0 < length ds → Length (length_at ds i)
length_in_lem ds i e h = rw (length_at_lem ds i h) (is_length (get_or ds (i % length ds) nan) (in_list ds (i % length ds) e (mod-lt i h)))

-- ---- a rest of at most k quarters; it is 0 where its sign is set
pub record Rest (k : ℕ) (x : Float) : Type 0 where
  pub s : Bool
  pub a : ℕ
  pub c : ℕ
  pub some : 0 < c
  pub value : HasValue x s a c
  pub most : 4 * a ≤ k * c
  pub zero : s ≡ true → a ≡ 0

zeroed : (x c : ℕ) (y : Bool) → T (eqb (0 * 1 * c) (x * 1) && y) → x ≡ 0
zeroed x c y t = let e : 0 * 1 * c ≡ x * 1 = eqb→eq (0 * 1 * c) (x * 1) (and_l (eqb (0 * 1 * c) (x * 1)) y t) in omega arith

quarters : (x c : ℕ) → T (ltb (x * 1) (1 * 32768 * c) || (eqb (x * 1) (1 * 32768 * c) && true)) → 4 * x ≤ 131072 * c
quarters x c t = let l : x * 1 ≤ 1 * 32768 * c = no_more (x * 1) (1 * 32768 * c) (is_true _ t) in omega arith

pub is_offset : (o : Float) → offset_in o ≡ true → Rest 131072 o
unfolding offset_in le lt eq of_bits
is_offset nan e = absurd (false≢true e)
is_offset (inf true) e = absurd (false≢true e)
is_offset (inf false) e = absurd (false≢true e)
is_offset (fin s m d) e = go s (and_l (le (of_bits binary32 0) (fin s m d)) (le (fin s m d) (of_bits binary32 0x47000000)) (told _ e)) (and_r (le (of_bits binary32 0) (fin s m d)) (le (fin s m d) (of_bits binary32 0x47000000)) (told _ e))
  where
    go : (s : Bool) → T (le (of_bits binary32 0) (fin s m d)) → T (le (fin s m d) (of_bits binary32 0x47000000)) → Rest 131072 (fin s m d)
    go true l h =
        let z : m * up d ≡ 0 = zeroed (m * up d) (down d) _ l in
        record { s = true; a = m * up d; c = down d; some = down_pos d; value = (refl, refl); most = omega arith; zero = λ t. z }
    go false l h = record { s = false; a = m * up d; c = down d; some = down_pos d; value = (refl, refl); most = quarters (m * up d) (down d) h; zero = λ t. absurd (false≢true t) }

-- ---- one length taken off
module _ (d rest : Float) (k : ℕ) (K : k < 16777216) (L : Length d) (R : Rest (suc k) rest) (e : le d rest ≡ true) where
  taken_off : Rest k (sub binary32 rest d)
  unfolding one
  taken_off =
      let c = R.c * den d in
      let C : 0 < c = mul-pos R.some (den_pos d) in
      let A = R.a * den d in
      let B = num d * R.c in
      let vr : HasValue rest R.s A c = scaled_value rest R.s R.a R.c (den d) R.value in
      let vd : HasValue d false B c = subst (λ (z : ℕ). HasValue d false B z) (mul_comm (den d) R.c) (scaled_value d false (num d) (den d) R.c L.value) in
      let low : c ≤ 4 * B = low_at (num d) (den d) R.c L.least in
      let pos : 0 < B = pos_at B c C low in
      let o = le_values d rest R.s B A c C pos vd vr e in
      let is = sub_plain rest d A B c C (subst (λ (t : Bool). HasValue rest t A c) o.0 vr) vd o.1 in
      let w = A - B in
      let small : 4 * w ≤ k * c = less A B c o.1 low (high_at R.a R.c (den d) R.most) in
      let m : rounded (w * 2 ^ 149) c ≤ k * 2 ^ 147 = rounded_le (w * 2 ^ 149) c C k 147 K (units w c (2 ^ 147) small) in
      let v : HasValue (sub binary32 rest d) false (rounded (w * 2 ^ 149) c) (2 ^ 149) = subst (λ (z : Float). HasValue z false (rounded (w * 2 ^ 149) c) (2 ^ 149)) (sym is) (round_value false w c (le_trans m (bound k (2 ^ 147) K))) in
      record { s = false; a = rounded (w * 2 ^ 149) c; c = 2 ^ 149; some = one_pos; value = v; most = quarters (rounded (w * 2 ^ 149) c) (2 ^ 147) m; zero = λ t. absurd (false≢true t) }
    where
      low_at : (n d r : ℕ) → d ≤ 4 * n → r * d ≤ 4 * (n * r)
      low_at n d r h = omega (arith, mul-le-mul_right r h)

      pos_at : (B c : ℕ) → 0 < c → c ≤ 4 * B → 0 < B
      pos_at B c C h = omega arith

      high_at : (a r d : ℕ) → 4 * a ≤ suc k * r → 4 * (a * d) ≤ suc k * (r * d)
      high_at a r d h = omega (arith, mul-le-mul_right d h)

      less : (A B c : ℕ) → B ≤ A → c ≤ 4 * B → 4 * A ≤ suc k * c → 4 * (A - B) ≤ k * c
      less A B c h l m = omega arith

      units : (w c q : ℕ) → 4 * w ≤ k * c → w * (4 * q) ≤ k * q * c
      units w c q h = omega (arith, mul-le-mul_right q h)

      bound : (k q : ℕ) → k < 16777216 → k * q ≤ 2 ^ 100 * (4 * q)
      bound k q h = le_trans (mul-le-mul_right q (le_trans (le_of_lt h) (lit≤ {m = 16777216} {n = 2 ^ 100 * 4} tt))) (le_of_eq (mul_assoc (2 ^ 100) 4 q))

      quarters : (r q : ℕ) → r ≤ k * q → 4 * r ≤ k * (4 * q)
      quarters r q h = omega arith

-- at no quarters no length is taken off
none_left : (d rest : Float) → Length d → Rest 0 rest → le d rest ≡ false
none_left d rest L R = go (le d rest) refl
  where
    go : (t : Bool) → le d rest ≡ t → le d rest ≡ false
    go false e = e
    go true e =
        let c = R.c * den d in
        let C : 0 < c = mul-pos R.some (den_pos d) in
        let A = R.a * den d in
        let B = num d * R.c in
        let vr : HasValue rest R.s A c = scaled_value rest R.s R.a R.c (den d) R.value in
        let vd : HasValue d false B c = subst (λ (z : ℕ). HasValue d false B z) (mul_comm (den d) R.c) (scaled_value d false (num d) (den d) R.c L.value) in
        let low : c ≤ 4 * B = low_at (num d) (den d) R.c L.least in
        let pos : 0 < B = pos_at B c C low in
        let o = le_values d rest R.s B A c C pos vd vr e in
        absurd (clash R.a R.c (den d) B R.most pos o.1)
      where
        low_at : (n d r : ℕ) → d ≤ 4 * n → r * d ≤ 4 * (n * r)
        low_at n d r h = omega (arith, mul-le-mul_right r h)

        pos_at : (B c : ℕ) → 0 < c → c ≤ 4 * B → 0 < B
        pos_at B c C h = omega arith

        clash : (a r d B : ℕ) → 4 * a ≤ 0 * r → 0 < B → B ≤ a * d → ⊥
        clash a r d B h p l = let z : a ≡ 0 = omega arith in let y : a * d ≡ 0 * d = ap (λ (x : ℕ). x * d) z in omega arith

fewer_quarters : (k : ℕ) (x : Float) → Rest k x → Rest (suc k) x
fewer_quarters k x R = record { s = R.s; a = R.a; c = R.c; some = R.some; value = R.value; most = omega (arith, R.most); zero = R.zero }

-- ---- the whole
pub record Ended (ds : List Float) (i n : ℕ) (w : Wear) : Type 0 where
  -- the next length is above what remains: so the limit was not what ended it
  pub stops : le (length_at ds w.index) w.rest ≡ false
  pub rest : Rest n w.rest
  pub index : w.index ≤ i + n

module _ (ds : List Float) (L : lengths_in ds ≡ true) (some : 0 < length ds) where
  pub wears : (n i : ℕ) (rest : Float) → n ≤ 16777216 → Rest n rest → Ended ds i n (worn_from n ds i rest)
  unfolding worn_from
  wears zero i rest N R = record { stops = none_left (length_at ds i) rest (length_in_lem ds i L some) R; rest = R; index = omega arith }
  wears (suc n) i rest N R = go (le (length_at ds i) rest) refl (λ (x : Float) (r : Rest n x). wears n (i + 1) x (omega arith) r)
    where
      go : (t : Bool) → le (length_at ds i) rest ≡ t → ((x : Float) → Rest n x → Ended ds (i + 1) n (worn_from n ds (i + 1) x))
          → Ended ds i (suc n) (cond t (worn_from n ds (i + 1) (sub binary32 rest (length_at ds i))) (record { index = i; rest = rest }))
      go true e f =
          let E = f (sub binary32 rest (length_at ds i)) (taken_off (length_at ds i) rest n (omega arith) (length_in_lem ds i L some) R e) in
          record { stops = E.stops; rest = fewer_quarters n _ E.rest; index = omega (arith, E.index) }
      go false e f = record { stops = e; rest = R; index = omega arith }

  -- an accepted offset is worn down before its 131,072 steps are used up
  pub worn_ends : (o : Float) → offset_in o ≡ true → Ended ds 0 131072 (worn_of ds o)
  worn_ends o e = wears 131072 0 o (lit≤ tt) (is_offset o e)
