-- Every cut of a run lies within 32,768 where its points do: each spot on the way has advancements that are finite and not negative. `big` is 2 ^ 18,
-- more than any edge or length; after m edges no advancement is above m of them. Assumes nothing.
use mathlib.Core.Path.{◌≡◌, refl, sym, ap, ◌∙◌, subst}
use Prim.Native.Nat.{ℕ, zero, suc, ◌+◌, ◌-◌, ◌*◌, ◌^◌, ◌≤◌, ◌<◌, zero-le}
use native.Mathlib.Nat.{le_trans, le_of_eq, le_of_lt, lt_of_not-le, mul_comm, mul-le-mul, mul-le-mul_right, mul-pos}
use native.Mathlib.Decide.{dec_le}
use native.Mathlib.Omega.{arith}
use mathlib.Core.Bool.{Bool, true, false, cond, true≢false}
use mathlib.Core.List.{List, [], ◌∷◌, ◌++◌}
use lib.Dec.{lit<, lit≤}
use lib.Ieee.{Float, binary32, neg, add, sub, mul, le, of_bits, round}
use lib.Ieee.Fits.{add-fits}
use lib.Ieee.Exact.{HasValue}
use lib.Ieee.Positive.{num, den, den_pos}
use lib.ListN.{length, length-append}
use Rattle.plane.specs.F32.{f32}
use Rattle.plane.specs.Vector.{minus_of, square_length_of, length_of}
use Rattle.endpoint.specs.declared.Endpoint.{Endpoint}
use Rattle.lists.specs.All.{All}
use Rattle.lists.proofs.All.{all_append}
use Rattle.stays.specs.Stays.{Inside}
use Rattle.rounding.proofs.Rounding.{rounded, rounded_le}
use Rattle.rounding.proofs.Scales.{one, one_pos, rounded_le_power}
use Rattle.rounding.proofs.Values.{scaled_value, negated_value, round_value, add_plain}
use Rattle.rounding.proofs.Differences.{gap, distance}
use Rattle.rounding.proofs.Squares.{squared, length_squared, square_length_value}
use Rattle.rounding.proofs.Roots.{root_value}
use Rattle.dashes.specs.Pattern.{lengths_in, offset_in, length_at, worn_of, first_cut, next_cut}
use Rattle.dashes.specs.Marks.{falls_on, cut_of, passed_of, spot_of, turned_of, cuts_on, behind, cut_marks, marks_from, marks_of}
use Rattle.dashes.specs.declared.spot.Mark.{Mark}
use Rattle.dashes.specs.declared.spot.Mark.TheVariants.{Cut, Corner}
use Rattle.dashes.specs.declared.pattern.Beat.{Beat}
use Rattle.dashes.specs.declared.pattern.Wear.{Wear}
use Rattle.dashes.specs.declared.spot.Spot.{Spot}
use Rattle.stays.proofs.Compare.{sub_plain, le_plain_true}
use Rattle.stays.proofs.Wearing.{length_in_lem, Ended, worn_ends}
use Rattle.stays.proofs.Cutting.{Units, Placed, last, coordinate, cut_inside}

unfoldable pub big : ℕ
big = 2 ^ 167

pub big_ones : big ≡ 262144 * one
unfolding big one
big_ones = refl

pub high_big : (k n c : ℕ) → k < 16777216 → 0 < c → n ≤ k * big * c → rounded n c ≤ k * big
unfolding big
high_big k n c K C h = rounded_le n c C k 167 K h

-- so many are an f32
pub in_range_lem : (k r : ℕ) → k < 16777216 → r ≤ k * big → r ≤ 2 ^ 100 * one
unfolding big one
in_range_lem k r K h = le_trans h (le_trans (mul-le-mul_right (2 ^ 167) (le_of_lt K)) (lit≤ tt))

-- ---- a sum
pub record Sum (x : Float) (k : ℕ) : Type 0 where
  pub r : ℕ
  pub value : Units x r
  pub most : r ≤ k * big

unfoldable pub made : (z : Float) (w c k : ℕ) → 0 < c → k < 16777216 → z ≡ round binary32 false w c → w ≤ k * 262144 * c → Sum z k
made z w c k C K e h =
    let m : rounded (w * one) c ≤ k * big = high_big k (w * one) c K C (grown w k c one big h big_ones) in
    record { r = rounded (w * one) c; value = subst (λ (y : Float). Units y (rounded (w * one) c)) (sym e) (round_value false w c (in_range_lem k (rounded (w * one) c) K m)); most = m }
  where
    grown : (w k c o b : ℕ) → w ≤ k * 262144 * c → b ≡ 262144 * o → w * o ≤ k * b * c
    grown w k c o b h e = let a : w * o ≤ k * 262144 * c * o = mul-le-mul_right o h in let f : k * c * b ≡ k * c * (262144 * o) = ap (λ (z : ℕ). k * c * z) e in omega arith

-- x of at most k, y of at most one more
unfoldable pub more : (x y : Float) (a k b d : ℕ) → k + 1 < 16777216 → Units x a → a ≤ k * big → 0 < d → HasValue y false b d → b ≤ 262144 * d → Sum (add binary32 x y) (k + 1)
more x y a k b d K v h D w l =
    let c = one * d in
    let C : 0 < c = mul-pos one_pos D in
    let vx : HasValue x false (a * d) c = scaled_value x false a one d v in
    let vy : HasValue y false (b * one) c = subst (λ (z : ℕ). HasValue y false (b * one) z) (mul_comm d one) (scaled_value y false b d one w) in
    made (add binary32 x y) (a * d + b * one) c (k + 1) C K (add_plain x y (a * d) (b * one) c C vx vy) (total a b d k one big h l big_ones)
  where
    total : (a b d k o g : ℕ) → a ≤ k * g → b ≤ 262144 * d → g ≡ 262144 * o → a * d + b * o ≤ (k + 1) * 262144 * (o * d)
    total a b d k o g h l e =
        let p : a * d ≤ k * g * d = mul-le-mul_right d h in
        let q : b * o ≤ 262144 * d * o = mul-le-mul_right o l in
        let f : k * d * g ≡ k * d * (262144 * o) = ap (λ (z : ℕ). k * d * z) e in
        omega arith

-- ---- the length of an edge
long_in : (g h : ℕ) → g ≤ 65536 * one → h ≤ 65536 * one → length_squared g h ≤ 34359738368 * one
unfolding length_squared squared
long_in g h p q = rounded_le_power 35 ((squared g + squared h) * one) one one_pos (mul-le-mul_right one (both (squared g) (squared h) (square_in g p) (square_in h q)))
  where
    turn : (o : ℕ) → 65536 * o * (65536 * o) * o ≡ 4294967296 * o * (o * o)
    turn o = omega arith

    square_in : (g : ℕ) → g ≤ 65536 * one → squared g ≤ 4294967296 * one
    square_in g p = rounded_le_power 32 (g * g * one) (one * one) (mul-pos one_pos one_pos) (le_trans (mul-le-mul_right one (mul-le-mul p p)) (le_of_eq (turn one)))

    both : (a b : ℕ) → a ≤ 4294967296 * one → b ≤ 4294967296 * one → a + b ≤ 34359738368 * one
    both a b p q = omega arith

root_in : (r n o : ℕ) → 0 < o → 16777216 * (r * r) ≤ 16777219 * (n * o) → n ≤ 34359738368 * o → r ≤ 262144 * o
root_in r n o O h l = go (dec_le r (262144 * o))
  where
    go : Dec (r ≤ 262144 * o) → r ≤ 262144 * o
    go (yes a) = a
    go (no f) =
        let a : 262144 * o ≤ r = le_of_lt (lt_of_not-le f) in
        let b : 262144 * o * (262144 * o) ≤ r * r = mul-le-mul a a in
        let c : n * o ≤ 34359738368 * o * o = mul-le-mul_right o l in
        let d : 0 < o * o = mul-pos O O in
        absurd (omega arith)

pub edge_length : (a p : Endpoint) → Inside a → Inside p → (r : ℕ) × Units (length_of (minus_of p.position a.position)) r × (r ≤ 262144 * one)
unfolding length_of square_length_of minus_of
edge_length a p h k =
    let gx = gap 32768 a.position.x p.position.x (lit< tt) (coordinate a.position.x h.x) (coordinate p.position.x k.x) in
    let gy = gap 32768 a.position.y p.position.y (lit< tt) (coordinate a.position.y h.y) (coordinate p.position.y k.y) in
    let dx = sub binary32 p.position.x a.position.x in
    let dy = sub binary32 p.position.y a.position.y in
    let X = distance gx in
    let Y = distance gy in
    let v = square_length_value 16 (lit≤ tt) dx dy gx.r gy.r X Y gx.difference.value gx.difference.within gy.difference.value gy.difference.within in
    let R = root_value (square_length_of (minus_of p.position a.position)) (length_squared X Y) (add-fits binary32 (mul binary32 dx dx) (mul binary32 dy dy)) v in
    (R.r, R.value, root_in R.r (length_squared X Y) one one_pos R.high (long_in X Y gx.difference.within gy.difference.within))

-- ---- a spot after m edges
pub record On (m : ℕ) (s : Spot) : Type 0 where
  pub from : Inside s.from
  pub to : Inside s.to
  pub start : Sum s.start m
  pub end : Sum s.end (m + 1)
  pub at : Sum s.beat.at (m + 2)

pub placed : (m : ℕ) (s : Spot) → m + 2 < 16777216 → On m s → Placed s
placed m s M o = record { A = o.start.r; start = o.start.value; E = o.end.r; end = o.end.value; E-in = in_range_lem (m + 1) o.end.r (omega arith) o.end.most; B = o.at.r; at = o.at.value }

pub below : (b e g : ℕ) → b < e → e ≤ g → b ≤ g
below b e g h k = omega arith

pub room : (d n : ℕ) → n ≤ 32768 * d → n ≤ 262144 * d
room d n h = omega arith

-- ---- past a cut, past all of an edge, past a corner
module _ (ds : List Float) (L : lengths_in ds ≡ true) (some : 0 < length ds) (m : ℕ) (M : m + 3 < 16777216) where
  unfoldable pub on_passed : (s : Spot) → On m s → falls_on s ≡ true → On m (passed_of ds s)
  unfolding passed_of next_cut placed
  on_passed s o F =
      let d = length_at ds (s.beat.index + 1) in
      let l = length_in_lem ds (s.beat.index + 1) L some in
      let P = placed m s (omega arith) o in
      let b : o.at.r ≤ (m + 1) * big = below o.at.r o.end.r ((m + 1) * big) (last s P F) o.end.most in
      let e : m + 1 + 1 ≡ m + 2 = omega arith in
      record {
        from = o.from;
        to = o.to;
        start = o.start;
        end = o.end;
        at = let M = more s.beat.at d o.at.r (m + 1) (num d) (den d) (omega arith) o.at.value b (den_pos d) l.value (room (den d) (num d) l.most) in
            record { r = M.r; value = M.value; most = subst (λ (k : ℕ). M.r ≤ k * big) e M.most };
      }

  pub on_behind : (n : ℕ) (s : Spot) → On m s → On m (behind n ds s)
  unfolding behind
  on_behind zero s o = o
  on_behind (suc n) s o = go (falls_on s) refl (λ (F : falls_on s ≡ true). on_behind n (passed_of ds s) (on_passed s o F))
    where
      go : (t : Bool) → falls_on s ≡ t → (falls_on s ≡ true → On m (behind n ds (passed_of ds s))) → On m (cond t (behind n ds (passed_of ds s)) s)
      go true F f = f F
      go false F f = o

-- the place of a mark
abbrev pub place_of : Mark → Endpoint
place_of (Cut p) = p
place_of (Corner p) = p

abbrev pub AllIn : List Mark → Type 0
AllIn ms = All (λ (k : Mark). Inside (place_of k)) ms

pub zero_value : Units (f32 0) 0
unfolding of_bits one
zero_value = (refl, refl)

-- what is left of a length above the rest
left : (s : Bool) (d rest : Float) (D A c : ℕ) → 0 < c → D ≤ 1 * 262144 * c → HasValue d false D c → HasValue rest s A c → (s ≡ true → A ≡ 0) → le d rest ≡ false → Sum (sub binary32 d rest) 1
unfolding sub
left true d rest D A c C g vd vr z f = made (add binary32 d (neg rest)) (D + A) c 1 C (lit< tt) (add_plain d (neg rest) D A c C vd (negated_value rest true A c vr)) (plus D A (1 * 262144 * c) (z refl) g)
  where
    plus : (D A g : ℕ) → A ≡ 0 → D ≤ g → D + A ≤ g
    plus D A g z h = omega arith
left false d rest D A c C g vd vr z f = made (sub binary32 d rest) (D - A) c 1 C (lit< tt) (sub_plain d rest D A c C vd vr (go (dec_le D A))) (less D A (1 * 262144 * c) g)
  where
    go : Dec (D ≤ A) → A ≤ D
    go (yes l) = absurd (true≢false (sym (le_plain_true d rest D A c C vd vr l) ∙ f))
    go (no l) = le_of_lt (lt_of_not-le l)

    less : (D A g : ℕ) → D ≤ g → D - A ≤ g
    less D A g h = omega arith

module _ (ds : List Float) (L : lengths_in ds ≡ true) (some : 0 < length ds) where
  cuts_in : (m : ℕ) → m + 3 < 16777216 → (n : ℕ) (s : Spot) → On m s → (ms : List Mark) → AllIn ms → AllIn (cut_marks (cuts_on n ds s) ++ ms)
  unfolding cuts_on cut_marks
  cuts_in m M zero s o ms a = a
  cuts_in m M (suc n) s o ms a = go (falls_on s) refl (λ (F : falls_on s ≡ true). cuts_in m M n (passed_of ds s) (on_passed ds L some m M s o F) ms a)
    where
      go : (t : Bool) → falls_on s ≡ t → (falls_on s ≡ true → AllIn (cut_marks (cuts_on n ds (passed_of ds s)) ++ ms)) → AllIn (cut_marks (cond t (cut_of s ∷ cuts_on n ds (passed_of ds s)) []) ++ ms)
      go true F f = (cut_inside s (placed m s (omega arith) o) F o.from o.to, f F)
      go false F f = a

  unfoldable pub on_spot : (m : ℕ) → m + 4 < 16777216 → (a : Endpoint) (a0 : Float) (p : Endpoint) (b : Beat) → Inside a → Inside p → Sum a0 m → Sum b.at (m + 2) → On m (spot_of a a0 p b)
  unfolding spot_of
  on_spot m M a a0 p b h k A B =
      let l = edge_length a p h k in
      record { from = h; to = k; start = A; end = more a0 (length_of (minus_of p.position a.position)) A.r m l.0 one (omega arith) A.value A.most one_pos l.1 l.2; at = B }

  marks_in : (m : ℕ) (s : Spot) (ps : List Endpoint) → m + length ps + 4 < 16777216 → On m s → All Inside ps → AllIn (marks_from ds s ps)
  unfolding marks_from
  marks_in m s [] M o q = cuts_in m (omega arith) 65537 s o (Corner s.to ∷ []) (o.to, tt)
  marks_in m s (p ∷ ps) M o (h, q) =
      let t = on_behind ds L some m (omega arith) 65537 s o in
      let s2 = behind 65537 ds s in
      let at : Sum s2.beat.at (m + 1 + 2) = record { r = t.at.r; value = t.at.value; most = le_trans t.at.most (mul-le-mul_right big (three m)) } in
      cuts_in m (omega arith) 65537 s o (Corner s.to ∷ marks_from ds (turned_of s2 p) ps) (o.to, (marks_in (m + 1) (turned_of s2 p) ps (omega arith) (on_spot (m + 1) (omega arith) s2.to s2.end p s2.beat t.to h t.end at) q))
    where
      three : (m : ℕ) → m + 2 ≤ m + 1 + 2
      three m = omega arith

  -- ---- the first cut: what is left of a length is not negative
  pub first_in : (w : Wear) (n : ℕ) → Ended ds 0 n w → Sum (first_cut ds w).at 1
  unfolding first_cut
  first_in w n e =
      let d = length_at ds w.index in
      let l = length_in_lem ds w.index L some in
      let R = e.rest in
      let c = den d * R.c in
      let C : 0 < c = mul-pos (den_pos d) R.some in
      let D = num d * R.c in
      let A = R.a * den d in
      let vd : HasValue d false D c = scaled_value d false (num d) (den d) R.c l.value in
      let vr : HasValue w.rest R.s A c = subst (λ (z : ℕ). HasValue w.rest R.s A z) (mul_comm R.c (den d)) (scaled_value w.rest R.s R.a R.c (den d) R.value) in
      left R.s d w.rest D A c C (grow (num d) (den d) R.c l.most) vd vr (λ (t : R.s ≡ true). ap (λ (x : ℕ). x * den d) (R.zero t) ∙ nought (den d)) e.stops
    where
      grow : (n d r : ℕ) → n ≤ 32768 * d → n * r ≤ 1 * 262144 * (d * r)
      grow n d r h = let a : n * r ≤ 32768 * d * r = mul-le-mul_right r h in omega arith

      nought : (d : ℕ) → 0 * d ≡ 0
      nought d = omega arith

  -- ---- a whole run
  pub run_inside : (o : Float) → offset_in o ≡ true → (closed : Bool) (ps : List Endpoint) → length ps + 5 < 16777216 → All Inside ps → AllIn (marks_of closed ds (first_cut ds (worn_of ds o)) ps)
  unfolding marks_of
  run_inside o O closed [] M q = tt
  run_inside o O closed (p0 ∷ []) M q = tt
  run_inside o O closed (p0 ∷ p1 ∷ ps) M (h, (k, q)) =
      let b = first_cut ds (worn_of ds o) in
      let B = first_in (worn_of ds o) 131072 (worn_ends ds L some o O) in
      let at : Sum b.at (0 + 2) = record { r = B.r; value = B.value; most = le_trans B.most (mul-le-mul_right big (lit≤ tt)) } in
      let zero_sum : Sum (f32 0) 0 = record { r = 0; value = zero_value; most = zero-le } in
      marks_in 0 (spot_of p0 (f32 0) p1 b) (ps ++ cond closed (p0 ∷ []) []) (many closed) (on_spot 0 (lit< tt) p0 (f32 0) p1 b h k zero_sum at) (both closed)
    where
      many : (t : Bool) → 0 + length (ps ++ cond t (p0 ∷ []) []) + 4 < 16777216
      many true = simp length-append (omega arith)
      many false = simp length-append (omega arith)

      both : (t : Bool) → All Inside (ps ++ cond t (p0 ∷ []) [])
      both true = all_append Inside ps (p0 ∷ []) q (h, tt)
      both false = all_append Inside ps [] q tt
