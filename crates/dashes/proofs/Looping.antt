-- The loops' turns: what was to come is still to come. Each law is over any number of steps n, so that no definition is unrolled. Assumes nothing.
use Prim.Native.Nat.{ℕ, suc, ◌+◌, ◌-◌, ◌≤◌, ◌<◌}
use mathlib.Core.Path.{◌≡◌, refl, sym, ap, ◌∙◌}
use mathlib.Core.Bool.{true, false}
use mathlib.Core.List.{List, []}
use native.Mathlib.Omega.{arith}
use native.Mathlib.Numerals.{add-one}
use lib.Ieee.{Float, le, nan}
use lib.ListN.{length, drop, get_or, drop_of_length-le}
use lib.Seq.{drop-cons}
use Rattle.plane.specs.F32.{◌⊖◌}
use Rattle.dashes.specs.Pattern.{length_in, lengths_in, length_at, worn_from, next_cut}
use Rattle.dashes.specs.Marks.{falls_on, passed_of, cuts_on, behind}
use Rattle.dashes.specs.Counts.{EdgeCounted}
use Rattle.dashes.specs.declared.pattern.Wear.{Wear}
use Rattle.dashes.specs.declared.spot.Spot.{Spot}

-- ---- the list of lengths: the first i are in their range
pub record Tested (ds : List Float) (i : ℕ) : Type 0 where
  pub reached : i ≤ length ds
  pub rest : lengths_in ds ≡ lengths_in (drop i ds)

pub tested_none : (ds : List Float) → Tested ds 0
tested_none ds = record { reached = omega arith; rest = refl }

module _ (ds : List Float) (i : ℕ) (w : Tested ds i) where
  pub tested_all : length ds ≤ i → true ≡ lengths_in ds
  unfolding lengths_in
  tested_all h = let e : drop i ds ≡ [] = drop_of_length-le ds h in sym (rw e at w.rest)

  module _ (h : i < length ds) where
    pub tested_stop : length_in (get_or ds i nan) ≡ false → false ≡ lengths_in ds
    unfolding lengths_in
    tested_stop f = sym (rw (drop-cons ds i nan h, f) at w.rest)

    pub tested_one : length_in (get_or ds i nan) ≡ true → Tested ds (i + 1)
    unfolding lengths_in
    tested_one t = record { reached = omega arith; rest = rw add-one (rw (drop-cons ds i nan h, t) at w.rest) }

-- ---- the offset
module _ (ds : List Float) (o : Float) (n : ℕ) where
  pub record Wearing (i : ℕ) (rest : Float) : Type 0 where
    pub reached : i ≤ n
    pub same : worn_from n ds 0 o ≡ worn_from (n - i) ds i rest

  pub wearing_none : Wearing 0 o
  wearing_none = let e : n - 0 ≡ n = omega arith in record { reached = omega arith; same = rw e }

  module _ (i : ℕ) (rest : Float) (w : Wearing i rest) where
    pub wearing_all : n ≤ i → record { index = n; rest = rest } ≡ worn_from n ds 0 o
    unfolding worn_from
    wearing_all h =
        let e : n - i ≡ 0 = omega (arith, w.reached) in
        let k : n ≡ i = omega (arith, w.reached) in
        let wear : ℕ → Wear = λ j. record { index = j; rest = rest } in
        ap wear k ∙ sym (rw e at w.same)

    pub wearing_stop : (d : Float) → d ≡ length_at ds i → i < n → le d rest ≡ false → record { index = i; rest = rest } ≡ worn_from n ds 0 o
    unfolding worn_from
    wearing_stop d g h f = let e : n - i ≡ suc (n - (i + 1)) = omega arith in sym (rw (e, ← g, f) at w.same)

    pub wearing_one : (d : Float) → d ≡ length_at ds i → i < n → le d rest ≡ true → Wearing (i + 1) (rest ⊖ d)
    unfolding worn_from
    wearing_one d g h t = let e : n - i ≡ suc (n - (i + 1)) = omega arith in record { reached = omega arith; same = rw (e, ← g, t) at w.same }

-- ---- the cuts of an edge
index_passed : (ds : List Float) (s : Spot) → (passed_of ds s).beat.index ≡ s.beat.index + 1
unfolding passed_of next_cut
index_passed ds s = refl

module _ (ds : List Float) (s0 : Spot) (n : ℕ) where
  pub record Counting (s : Spot) (k : ℕ) : Type 0 where
    pub reached : k ≤ n
    pub index : s.beat.index ≡ s0.beat.index + k
    pub count : length (cuts_on n ds s0) ≡ k + length (cuts_on (n - k) ds s)
    pub spot : behind n ds s0 ≡ behind (n - k) ds s

  pub counting_none : Counting s0 0
  counting_none = let e : n - 0 ≡ n = omega arith in record { reached = omega arith; index = omega arith; count = rw e (omega arith); spot = rw e }

  module _ (s : Spot) (k : ℕ) (w : Counting s k) where
    abbrev Found : Type 0
    Found = (k ≡ length (cuts_on n ds s0)) × (s ≡ behind n ds s0)

    pub counting_all : n ≤ k → (n ≡ length (cuts_on n ds s0)) × (s ≡ behind n ds s0)
    unfolding cuts_on behind
    counting_all h =
        let e : n - k ≡ 0 = omega (arith, w.reached) in
        let c : length (cuts_on n ds s0) ≡ k + 0 = rw e at w.count in
        (omega (arith, c), sym (rw e at w.spot))

    pub counting_stop : k < n → falls_on s ≡ false → Found
    unfolding cuts_on behind
    counting_stop h f =
        let e : n - k ≡ suc (n - (k + 1)) = omega arith in
        let c : length (cuts_on n ds s0) ≡ k + 0 = rw (e, f) at w.count in
        (omega (arith, c), sym (rw (e, f) at w.spot))

    pub counting_one : k < n → falls_on s ≡ true → Counting (passed_of ds s) (k + 1)
    unfolding cuts_on behind
    counting_one h t =
        let e : n - k ≡ suc (n - (k + 1)) = omega arith in
        let c : length (cuts_on n ds s0) ≡ k + suc (length (cuts_on (n - (k + 1)) ds (passed_of ds s))) = rw (e, t) at w.count in
        record {
          reached = omega arith;
          index = omega (arith, index_passed ds s, w.index);
          count = omega (arith, c);
          spot = rw (e, t) at w.spot;
        }

pub counted : (ds : List Float) (s0 s : Spot) (k : ℕ) → k ≤ 65537 → s.beat.index ≡ s0.beat.index + k → (k ≡ length (cuts_on 65537 ds s0)) × (s ≡ behind 65537 ds s0) → EdgeCounted ds s0 (record { spot = s; count = k })
counted ds s0 s k m i f = record { count = f.0; spot = f.1; most = m; index = i }
