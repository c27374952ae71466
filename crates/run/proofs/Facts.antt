-- What a run draws, counted, and demand 3 of it. The plan: a strip of two joints or more has strip's facts, an empty cap is two triangles over four vertices; so by
-- the number of kept points (`kept_covers`, `kept_counts`); from the counts come the bounds, and that they do not hang on the first number. Assumes nothing.
use Prim.Native.Nat.{ℕ, zero, suc, ◌+◌, ◌*◌, ◌^◌, ◌≤◌}
use mathlib.Core.Path.{◌≡◌, refl, sym, ◌∙◌}
use mathlib.Core.Bool.{Bool, true, false, ◌||◌, cond, true≢false}
use mathlib.Core.List.{List, [], ◌∷◌}
use native.Mathlib.Nat.{le_trans, mul-le-mul_left, mul-le-mul_right}
use native.Mathlib.Omega.{arith}
use native.Mathlib.Decide.{dec_le}
use lib.Dec.{ltb}
use lib.ListN.{length}
use Rattle.endpoint.specs.declared.Endpoint.{Endpoint}
use Rattle.endpoint.specs.declared.EndpointData.{EndpointData}
use Rattle.options.specs.Options.{rounds_joins, rounds_caps, is_round, level_of}
use Rattle.options.specs.declared.Stroke.{Stroke}
use Rattle.kept.specs.Kept.{kept_points}
use Rattle.joints.specs.Joint.{joints_of}
use Rattle.kept.proofs.Lengths.{kept_few}
use Rattle.joints.proofs.Lengths.{joints_length}
use Rattle.triangles.specs.Attached.{Covers}
use Rattle.triangles.specs.Facts.{In, AllOwn, Names, here, there, shared, Linked}
use Rattle.triangles.specs.Tri.{Tri}
use Rattle.strip.specs.Joint.{vertex_count, pair_sides}
use Rattle.strip.specs.Triangle.{triangles_of}
use Rattle.strip.proofs.Joints.{joint_few}
use Rattle.strip.proofs.Facts.Counts.{vertices_are, open_count, closed_count}
use Rattle.strip.proofs.Facts.Owns.{open_own, closed_own}
use Rattle.strip.proofs.Facts.Named.{open_named, closed_named}
use Rattle.strip.proofs.Facts.Shares.{open_linked, closed_linked}
use Rattle.triangles.proofs.Attaching.{linked_joined}
use Rattle.triangles.proofs.Having.{in_a_lem, in_b_lem, in_c_lem, in_none}
use Rattle.arc.proofs.Triangles.{pow_some}
use Rattle.round_cap.proofs.Counts.{pow_two, cap_counts}
use Rattle.round_cap.proofs.Covers as round_cap
use Rattle.woven.specs.Counts.{added_of}
use Rattle.plait.proofs.Bounds.{round_bounded}
use Rattle.plait.proofs.Rounds.{round_counts, round_covers}
use Rattle.run.specs.Facts.{Numbers, Alone, RunCounts}
use Rattle.run.specs.Run.{nothing, empty_cap, along, round_cap, round_along, draws_cap, cap_shape, round_of, round_cap_size, cap_size, arcs_added, shape_of_kept, shape_of, shape_count, shape_triangles}

-- ---- a strip of two joints or more
strip_numbers : (closed : Bool) (base : ℕ) (js : List EndpointData) → 2 ≤ length js → Numbers closed (length js) (pair_sides js) 0 (vertex_count js) (length (triangles_of closed base js))
strip_numbers closed base [] h = absurd (omega arith)
strip_numbers closed base (j ∷ []) h = absurd (omega arith)
strip_numbers true base (j ∷ i ∷ js) h = record { vertices = omega (arith, vertices_are (j ∷ i ∷ js)); triangles = omega (arith, closed_count base j i js, vertices_are (j ∷ i ∷ js)) }
strip_numbers false base (j ∷ i ∷ js) h = record { vertices = omega (arith, vertices_are (j ∷ i ∷ js)); triangles = omega (arith, open_count base j (i ∷ js), vertices_are (j ∷ i ∷ js)) }

strip_linked : (closed : Bool) (base : ℕ) (js : List EndpointData) → 2 ≤ length js → Linked (triangles_of closed base js)
strip_linked closed base [] h = absurd (omega arith)
strip_linked closed base (j ∷ []) h = absurd (omega arith)
strip_linked true base (j ∷ i ∷ js) h = closed_linked base j i js
strip_linked false base (j ∷ i ∷ js) h = open_linked base j (i ∷ js)

strip_covers : (closed : Bool) (base : ℕ) (js : List EndpointData) → 2 ≤ length js → Covers base (base + vertex_count js) (triangles_of closed base js)
strip_covers closed base [] h = absurd (omega arith)
strip_covers closed base (j ∷ []) h = absurd (omega arith)
strip_covers true base (j ∷ i ∷ js) h = record { own = closed_own base j i js; named = closed_named base j i js; joined = linked_joined (triangles_of true base (j ∷ i ∷ js)) (closed_linked base j i js) }
strip_covers false base (j ∷ i ∷ js) h = record { own = open_own base j (i ∷ js); named = open_named base j i js; joined = linked_joined (triangles_of false base (j ∷ i ∷ js)) (open_linked base j (i ∷ js)) }

-- ---- a round run has its strip's numbers, and as many more of each as its arcs add
round_numbers : (closed : Bool) (o : Stroke) (base : ℕ) (p q : Endpoint) (ks : List Endpoint) → let js = joints_of closed o (p ∷ q ∷ ks) in
    Numbers closed (length js) (pair_sides js) (added_of closed (round_of o) js) (shape_count (round_along closed o p q ks)) (length (shape_triangles closed base (round_along closed o p q ks)))
unfolding shape_count shape_triangles
round_numbers true o base p q ks =
    let js = joints_of true o (p ∷ q ∷ ks) in
    record { vertices = omega (arith, vertices_are js); triangles = omega (arith, (round_counts true o (round_of o) (record { 0 = base }) p q ks).triangles, vertices_are js) }
round_numbers false o base p q ks =
    let js = joints_of false o (p ∷ q ∷ ks) in
    record { vertices = omega (arith, vertices_are js); triangles = omega (arith, (round_counts false o (round_of o) (record { 0 = base }) p q ks).triangles, vertices_are js, joints_length false o p q ks) }

-- ---- an empty cap
abbrev one : ℕ → Tri
one base = record { a = base; b = base + 1; c = base + 2 }

abbrev two : ℕ → Tri
two base = record { a = base; b = base + 2; c = base + 3 }

cap_own : (base : ℕ) → AllOwn base (base + 4) (one base ∷ two base ∷ [])
cap_own base = (omega arith, (omega arith, tt))

cap_names : (base x : ℕ) → In base (base + 4) x → Names x (one base ∷ two base ∷ [])
cap_names base x m = go (dec_le x base) (dec_le x (base + 1)) (dec_le x (base + 2))
  where
    go : Dec (x ≤ base) → Dec (x ≤ base + 1) → Dec (x ≤ base + 2) → Names x (one base ∷ two base ∷ [])
    go (yes h) b c = let e : x ≡ base = omega (arith, m) in here {t = one base} (rw e (in_a_lem (base + 1) (base + 2) base))
    go (no f) (yes h) c = let e : x ≡ base + 1 = omega (arith, m) in here {t = one base} (rw e (in_b_lem base (base + 2) (base + 1)))
    go (no f) (no g) (yes h) = let e : x ≡ base + 2 = omega (arith, m) in here {t = one base} (rw e (in_c_lem base (base + 1) (base + 2)))
    go (no f) (no g) (no h) = let e : x ≡ base + 3 = omega (arith, m) in there (here {t = two base} (rw e (in_c_lem base (base + 2) (base + 3))))

cap_linked : (base : ℕ) → Linked (one base ∷ two base ∷ [])
unfolding shared
cap_linked base = (rw (in_a_lem (base + 1) (base + 2) base, in_c_lem base (base + 1) (base + 2), in_none base (base + 1) (base + 2) (base + 3) (omega arith) (omega arith) (omega arith)), tt)

-- ---- a run, by its kept points
nothing_covers : (base : ℕ) → Covers base (base + 0) []
nothing_covers base = record { own = tt; named = λ x l h. absurd (omega arith); joined = tt }

cap_covers : (o : Stroke) (closed : Bool) (base : ℕ) (p : Endpoint) (round : Bool)
    → Covers base (base + shape_count (cond round (round_cap o p) (empty_cap p))) (shape_triangles closed base (cond round (round_cap o p) (empty_cap p)))
unfolding shape_count shape_triangles
cap_covers o closed base p true = round_cap.cap_covers (level_of o) (record { 0 = base }) p o.half_width
cap_covers o closed base p false = record { own = cap_own base; named = λ x l h. cap_names base x (l, h); joined = linked_joined (one base ∷ two base ∷ []) (cap_linked base) }

kept_covers : (o : Stroke) (closed lines : Bool) (base : ℕ) (ks : List Endpoint) → Covers base (base + shape_count (shape_of_kept o closed lines ks)) (shape_triangles closed base (shape_of_kept o closed lines ks))
unfolding shape_count shape_triangles
kept_covers o closed lines base [] = nothing_covers base
kept_covers o closed lines base (p ∷ []) = go (draws_cap o.cap closed lines)
  where
    go : (b : Bool) → Covers base (base + shape_count (cond b (cap_shape o p) nothing)) (shape_triangles closed base (cond b (cap_shape o p) nothing))
    go true = cap_covers o closed base p (rounds_caps o.cap)
    go false = nothing_covers base
kept_covers o closed lines base (p ∷ q ∷ ks) = go (is_round o)
  where
    go : (round : Bool) → let s = cond round (round_along closed o p q ks) (along (joints_of closed o (p ∷ q ∷ ks))) in Covers base (base + shape_count s) (shape_triangles closed base s)
    go true = round_covers closed o (round_of o) (record { 0 = base }) p q ks
    go false =
        let l = joints_length closed o p q ks in
        strip_covers closed base (joints_of closed o (p ∷ q ∷ ks)) (omega arith)

not_caps : (o : Stroke) → is_round o ≡ false → rounds_caps o.cap ≡ false
unfolding is_round
not_caps o e = go (rounds_joins o.line_join) (rounds_caps o.cap) e
  where
    go : (j c : Bool) → (j || c) ≡ false → c ≡ false
    go true c f = absurd (true≢false f)
    go false c f = f

-- "strips without arcs keep the stronger clause": each triangle but the first shares exactly two vertices with the one before
kept_linked : (o : Stroke) (closed lines : Bool) (base : ℕ) (ks : List Endpoint) → is_round o ≡ false → Linked (shape_triangles closed base (shape_of_kept o closed lines ks))
unfolding shape_triangles
kept_linked o closed lines base [] e = tt
kept_linked o closed lines base (p ∷ []) e = go (draws_cap o.cap closed lines) (rounds_caps o.cap) (not_caps o e)
  where
    go : (b round : Bool) → round ≡ false → Linked (shape_triangles closed base (cond b (cond round (round_cap o p) (empty_cap p)) nothing))
    go true false f = cap_linked base
    go true true f = absurd (true≢false f)
    go false round f = tt
kept_linked o closed lines base (p ∷ q ∷ ks) e =
    let l = joints_length closed o p q ks in
    rw e (strip_linked closed base (joints_of closed o (p ∷ q ∷ ks)) (omega arith))

module _ (o : Stroke) (closed : Bool) (base : ℕ) (ps : List Endpoint) where
  pub run_covers : Covers base (base + shape_count (shape_of o closed ps)) (shape_triangles closed base (shape_of o closed ps))
  unfolding shape_of
  run_covers = kept_covers o closed (ltb 1 (length ps)) base (kept_points o.near closed ps)

  pub run_linked : is_round o ≡ false → Linked (shape_triangles closed base (shape_of o closed ps))
  unfolding shape_of
  run_linked e = kept_linked o closed (ltb 1 (length ps)) base (kept_points o.near closed ps) e

-- n points kept, d pair sides, a of each by arcs
cap_counted : (o : Stroke) (closed : Bool) (base : ℕ) (p : Endpoint) (b : Bool)
    → Alone b (cap_size o) (shape_count (cond b (cap_shape o p) nothing)) (length (shape_triangles closed base (cond b (cap_shape o p) nothing)))
unfolding shape_count shape_triangles
cap_counted o closed base p false = record { vertices = refl; triangles = refl }
cap_counted o closed base p true = go (rounds_caps o.cap)
  where
    go : (round : Bool) → let s = cond round (round_cap o p) (empty_cap p) in Alone true (cond round (round_cap_size o) 4) (shape_count s) (length (shape_triangles closed base s))
    go false = record { vertices = refl; triangles = refl }
    go true = record { vertices = refl; triangles = omega (arith, (cap_counts (level_of o) p o.half_width (record { 0 = base })).1) }

kept_counts : (o : Stroke) (closed lines : Bool) (base : ℕ) (ks : List Endpoint)
    → RunCounts closed (draws_cap o.cap closed lines) (cap_size o) (length ks) (pair_sides (joints_of closed o ks)) (arcs_added closed o ks) (shape_count (shape_of_kept o closed lines ks))
    (length (shape_triangles closed base (shape_of_kept o closed lines ks)))
unfolding shape_count shape_triangles
kept_counts o closed lines base [] = (refl, refl)
kept_counts o closed lines base (p ∷ []) = cap_counted o closed base p (draws_cap o.cap closed lines)
kept_counts o closed lines base (p ∷ q ∷ ks) = go (is_round o)
  where
    go : (round : Bool) → let s = cond round (round_along closed o p q ks) (along (joints_of closed o (p ∷ q ∷ ks))) in let js = joints_of closed o (p ∷ q ∷ ks) in
        Numbers closed (length (p ∷ q ∷ ks)) (pair_sides js) (cond round (added_of closed (round_of o) js) 0) (shape_count s) (length (shape_triangles closed base s))
    go true = rw (← joints_length closed o p q ks) (round_numbers closed o base p q ks)
    go false =
        let l = joints_length closed o p q ks in
        rw (← l) (strip_numbers closed base (joints_of closed o (p ∷ q ∷ ks)) (omega arith))

module _ (o : Stroke) (closed : Bool) (base : ℕ) (ps : List Endpoint) where
  pub run_counts : let kept = kept_points o.near closed ps in
      RunCounts closed (draws_cap o.cap closed (ltb 1 (length ps))) (cap_size o) (length kept) (pair_sides (joints_of closed o kept)) (arcs_added closed o kept)
      (shape_count (shape_of o closed ps)) (length (shape_triangles closed base (shape_of o closed ps)))
  unfolding shape_of
  run_counts = kept_counts o closed (ltb 1 (length ps)) base (kept_points o.near closed ps)

-- ---- bounds: at most four vertices to a point, twice as many with each level of arcs; no more triangles than vertices, wherever the numbers begin
pairs_few : (js : List EndpointData) → pair_sides js ≤ 2 * length js
unfolding pair_sides
pairs_few [] = omega arith
pairs_few (j ∷ js) = omega (arith, joint_few j, pairs_few js)

pub record Few (level n v t : ℕ) : Type 0 where
  pub vertices : v ≤ 4 * 2 ^ level * n
  pub triangles : t ≤ v

numbers_few : (closed : Bool) (n d a v t : ℕ) → Numbers closed n d a v t → t ≤ v
numbers_few true n d a v t e = omega arith
numbers_few false n d a v t e = omega arith

-- four to a point are few at any level
four_few : (level n v : ℕ) → v ≤ 4 * n → v ≤ 4 * 2 ^ level * n
four_few level n v h = le_trans h (mul-le-mul_right n (omega (arith, pow_some level)))

cap_few : (o : Stroke) (closed : Bool) (base : ℕ) (p : Endpoint) (b : Bool) → Few (level_of o) 1 (shape_count (cond b (cap_shape o p) nothing)) (length (shape_triangles closed base (cond b (cap_shape o p) nothing)))
cap_few o closed base p b =
    let a = cap_counted o closed base p b in
    go b (rounds_caps o.cap) a
  where
    go : (b round : Bool) {v t : ℕ} → Alone b (cond round (round_cap_size o) 4) v t → Few (level_of o) 1 v t
    go false round e = omega (arith, e)
    go true true e = omega (arith, e, pow_two (level_of o))
    go true false e = omega (arith, e, pow_some (level_of o))

strip_few : (o : Stroke) (closed : Bool) (base : ℕ) (p q : Endpoint) (ks : List Endpoint) (round : Bool) → let s = cond round (round_along closed o p q ks) (along (joints_of closed o (p ∷ q ∷ ks))) in
    Few (level_of o) (length (p ∷ q ∷ ks)) (shape_count s) (length (shape_triangles closed base s))
unfolding shape_count shape_triangles round_of
strip_few o closed base p q ks true = record { vertices = round_bounded closed o (round_of o) p q ks; triangles = numbers_few closed _ _ _ _ _ (round_numbers closed o base p q ks) }
strip_few o closed base p q ks false =
    let js = joints_of closed o (p ∷ q ∷ ks) in
    let l = joints_length closed o p q ks in
    let e = strip_numbers closed base js (omega arith) in
    record { vertices = four_few (level_of o) (length (p ∷ q ∷ ks)) (vertex_count js) (omega (arith, e.vertices, pairs_few js)); triangles = numbers_few closed _ _ _ _ _ e }

kept_drawn_few : (o : Stroke) (closed lines : Bool) (base : ℕ) (ks : List Endpoint)
    → Few (level_of o) (length ks) (shape_count (shape_of_kept o closed lines ks)) (length (shape_triangles closed base (shape_of_kept o closed lines ks)))
unfolding shape_count shape_triangles
kept_drawn_few o closed lines base [] = record { vertices = omega arith; triangles = omega arith }
kept_drawn_few o closed lines base (p ∷ []) = cap_few o closed base p (draws_cap o.cap closed lines)
kept_drawn_few o closed lines base (p ∷ q ∷ ks) = strip_few o closed base p q ks (is_round o)

-- the counts of n points say how many triangles there are
counts_same : (closed cap : Bool) (size n d a v t u : ℕ) → RunCounts closed cap size n d a v t → RunCounts closed cap size n d a v u → t ≡ u
counts_same closed cap size zero d a v t u e f = e.1 ∙ sym f.1
counts_same closed cap size (suc zero) d a v t u e f = e.triangles ∙ sym f.triangles
counts_same closed cap size (suc (suc n)) d a v t u e f = e.triangles ∙ sym f.triangles

module _ (o : Stroke) (closed : Bool) (base : ℕ) (ps : List Endpoint) where
  pub run_few : Few (level_of o) (length ps) (shape_count (shape_of o closed ps)) (length (shape_triangles closed base (shape_of o closed ps)))
  unfolding shape_of
  run_few =
      let w = kept_drawn_few o closed (ltb 1 (length ps)) base (kept_points o.near closed ps) in
      record { vertices = le_trans w.vertices (mul-le-mul_left (4 * 2 ^ level_of o) (kept_few o.near closed ps)); triangles = w.triangles }

  pub run_anywhere : length (shape_triangles closed base (shape_of o closed ps)) ≡ length (shape_triangles closed 0 (shape_of o closed ps))
  unfolding shape_of
  run_anywhere = counts_same closed _ _ (length (kept_points o.near closed ps)) _ _ _ _ _ (run_counts o closed base ps) (run_counts o closed 0 ps)
