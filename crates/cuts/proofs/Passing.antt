-- The pass over the verbs: what is counted and what is to come is the same. The plan: the number of the first cut, a verb that names a point and one that ends a run, and
-- then `Going` from the start by a verb a turn to the end. Assumes nothing.
use Prim.Native.Nat.{ℕ, zero, suc, ◌+◌, ◌-◌, ◌*◌, ◌≤◌, ◌<◌}
use mathlib.Core.Path.{◌≡◌, sym, ap, ◌∙◌}
use mathlib.Core.Bool.{Bool, true, false, cond}
use mathlib.Core.List.{List, [], ◌∷◌}
use native.Mathlib.Omega.{arith}
use native.Mathlib.Numerals.{add-one}
use lib.Dec.{eqb}
use lib.Ieee.{Float, le}
use lib.ListN.{length, take, drop, get_or, drop_of_length-le}
use lib.Seq.{drop-drop, drop-cons}
use Rattle.plane.specs.F32.{◌⊖◌}
use Rattle.endpoint.specs.Endpoint.{endpoint_after, id_limit}
use Rattle.endpoint.specs.declared.Endpoint.{Endpoint}
use Rattle.path.specs.Runs.{runs_from}
use Rattle.path.specs.Verbs.{end_closed, names, named, point_count}
use Rattle.kept.specs.Kept.{kept_points}
use Rattle.kept.specs.Points.{endpoints_of}
use Rattle.kept.proofs.Indexed.{points_part}
use Rattle.dashes.specs.Marks.{cuts_enough}
use Rattle.dashes.specs.Pattern.{length_at, worn_from, worn_of, first_cut, wear_limit}
use Rattle.dashes.specs.declared.pattern.Beat.{Beat}
use Rattle.dashes.specs.declared.pattern.Wear.{Wear}
use Rattle.cuts.specs.Cuts.{kept_cuts, runs_cuts, capped_of}
use Rattle.cuts.specs.Passes.{Inside, counts, VerbCounted}
use Rattle.cuts.specs.declared.Progress.{Progress}
use Rattle.cuts.proofs.Capping.{capped_most, capped_same, capped_add}

-- ---- the first cut: each length that the offset uses up is a step
worn_index : (n : ℕ) (ds : List Float) (i : ℕ) (rest : Float) → (worn_from n ds i rest).index ≤ i + n
unfolding worn_from
worn_index zero ds i rest = omega arith
worn_index (suc n) ds i rest = go (le (length_at ds i) rest) (worn_index n ds (i + 1) (rest ⊖ length_at ds i))
  where
    go : (t : Bool) → (worn_from n ds (i + 1) (rest ⊖ length_at ds i)).index ≤ i + 1 + n
        → (cond {A = Wear} t (worn_from n ds (i + 1) (rest ⊖ length_at ds i)) (record { index = i; rest = rest })).index ≤ i + suc n
    go true h = omega arith
    go false h = omega arith

pub first_index : (ds : List Float) (offset : Float) → (first_cut ds (worn_of ds offset)).index ≤ wear_limit
unfolding first_cut
first_index ds offset = omega (arith, worn_index wear_limit ds 0 offset)

module _ (limit : Float) (ds : List Float) (b : Beat) (coords : List Float) where
  -- ---- a verb
  module _ (g : Progress) (v : ℕ) (inside : Inside g coords) where
    pub verb_point : names v ≡ true → VerbCounted limit ds b coords g v (record { first = g.first; size = g.size + 1; cuts = g.cuts })
    unfolding runs_from named
    verb_point t = record { points = rw t (omega arith); few = inside.few; same = λ verbs. rw t }

    abbrev current : List Endpoint
    current = endpoints_of g.first.0 (take (2 * (g.first.0 + g.size) - 2 * g.first.0) (drop (2 * g.first.0) coords))

    pub verb_end : (n : ℕ) → names v ≡ false → n ≡ capped_of (g.cuts + kept_cuts (eqb v end_closed) ds b (kept_points limit (eqb v end_closed) current))
        → VerbCounted limit ds b coords g v (record { first = endpoint_after g.first g.size; size = 0; cuts = n })
    unfolding runs_from named runs_cuts
    verb_end n t e =
        record {
          points = rw t (omega arith);
          few = rw e (capped_most (g.cuts + kept_cuts (eqb v end_closed) ds b (kept_points limit (eqb v end_closed) current)));
          same = λ verbs. rw (t, e, points_part g.first.0 g.size coords, drop-drop) (together verbs);
        }
      where
        own : ℕ
        own = kept_cuts (eqb v end_closed) ds b (kept_points limit (eqb v end_closed) (take g.size (drop g.first.0 (endpoints_of 0 coords))))

        sum : (a x y : ℕ) → a + (x + y) ≡ a + x + y
        sum a x y = omega arith

        together : (verbs : List ℕ) → let rest = runs_cuts limit ds b (runs_from 0 verbs (drop (g.first.0 + g.size) (endpoints_of 0 coords))) in capped_of (g.cuts + (own + rest)) ≡ capped_of (capped_of (g.cuts + own) + rest)
        together verbs =
            let rest = runs_cuts limit ds b (runs_from 0 verbs (drop (g.first.0 + g.size) (endpoints_of 0 coords))) in
            ap capped_of (sum g.cuts own rest) ∙ sym (capped_add (g.cuts + own) rest)

  -- ---- the pass
  pub record Going (vs : List ℕ) (i : ℕ) (g : Progress) : Type 0 where
    pub points : g.first.0 + g.size + point_count (drop i vs) ≡ point_count vs
    pub few : g.cuts ≤ cuts_enough
    pub same : capped_of (runs_cuts limit ds b (runs_from 0 vs (endpoints_of 0 coords))) ≡ counts limit ds b coords g (drop i vs)

  module _ (vs : List ℕ) where
    pub going_none : Going vs 0 (record { first = record { 0 = 0 }; size = 0; cuts = 0 })
    going_none =
        let all = runs_cuts limit ds b (runs_from 0 vs (endpoints_of 0 coords)) in
        let z : all ≡ 0 + all = omega arith in
        record { points = omega arith; few = omega arith; same = ap capped_of z }

    module _ (i : ℕ) (g : Progress) (w : Going vs i g) where
      pub going_inside : length coords ≡ 2 * point_count vs → length coords < id_limit → Inside g coords
      going_inside e l = record { end = omega (arith, w.points); short = l; few = w.few }

      pub going_one : (r : Progress) → i < length vs → VerbCounted limit ds b coords g (get_or vs i 0) r → Going vs (i + 1) r
      unfolding point_count
      going_one r h c =
          let v = get_or vs i 0 in
          let d : drop i vs ≡ v ∷ drop (i + 1) vs = rw add-one (drop-cons vs i 0 h) in
          let n : g.first.0 + g.size + (named v + point_count (drop (i + 1) vs)) ≡ point_count vs = rw d at w.points in
          record { points = omega (arith, c.points); few = c.few; same = (rw d at w.same) ∙ c.same (drop (i + 1) vs) }

      pub going_all : length vs ≤ i → g.cuts ≡ capped_of (runs_cuts limit ds b (runs_from 0 vs (endpoints_of 0 coords)))
      unfolding runs_from runs_cuts
      going_all h =
          let d : drop i vs ≡ [] = drop_of_length-le vs h in
          let z : g.cuts + 0 ≡ g.cuts = omega arith in
          sym ((rw d at w.same) ∙ rw z (capped_same g.cuts w.few))
