-- The part that is handed back of a written list is what the run wrote. The plan: the runs before it, the run and the runs behind it are the whole, and so are their floats,
-- one behind the other at the start of the list. Assumes nothing.
use Prim.Native.Nat.{ℕ, ◌*◌, ◌/◌, ◌≤◌, ◌<◌}
use mathlib.Core.Path.{◌≡◌, refl, sym, ap, ◌∙◌}
use mathlib.Core.Bool.{Bool, true, false, cond}
use mathlib.Core.List.{List, [], ◌∷◌, ◌++◌, append_assoc}
use native.Mathlib.Omega.{arith}
use borrow.Author.Tests.{lt-ltb, le-ltb, eqb-true}
use lib.Dec.{eqb}
use lib.Ieee.{Float}
use lib.ListN.{length, take, drop, take-append-drop, length-take}
use lib.Seq.{take_at, drop_at}
use Rattle.refusals.specs.Numbers.{number_of, accepted}
use Rattle.endpoint.specs.declared.Endpoint.{Endpoint}
use Rattle.lists.proofs.Laws.{flat_append}
use Rattle.options.specs.declared.Options.{Options}
use Rattle.options.specs.declared.Stroke.{Stroke}
use Rattle.path.specs.Runs.{Run}
use Rattle.pieces.specs.Piece.{Lists, flat_v, floats_of}
use Rattle.pieces.proofs.Pieces.{length_flat_v}
use Rattle.runs.specs.Part.{run_at}
use Rattle.cuts.proofs.Runs.{cut_append}
use Rattle.runs.specs.Runs.{runs_of, cut_of, path_runs, mesh_vertices, mesh_count, mesh_triangles}
use Rattle.runs.proofs.Runs.{vertices_append, length_vertices}
use Rattle.mesh.specs.Demand3.{EarnsNone}
use Rattle.mesh.specs.Mesh.{outcome_of}
use Rattle.mesh.proofs.Demand3.{demand_3}
use Rattle.measure.specs.Answer.{with_part}
use Rattle.measure.specs.Part.{part_at, found_of, stroked_part_of, part_of, Handed, handed_of}
use Rattle.measure.specs.Wrote.{Wrote}
use Rattle.measure.specs.declared.answer.PartAnswer.{PartAnswer}

-- ---- lists
part_of_lem : {A : Type 0} (a b c d : List A) → take (length b) (drop (length a) ((a ++ (b ++ c)) ++ d)) ≡ b
part_of_lem a b c d = rw (append_assoc a (b ++ c) d, drop_at a ((b ++ c) ++ d) (length a) refl, append_assoc b c d, take_at b (c ++ d) (length b) refl)

empty : {A : Type 0} (b : List A) → length b ≡ 0 → [] ≡ b
empty [] e = refl
empty (x ∷ b) e = absurd (omega (arith, e))

-- ---- the floats of the runs, each with all its dashes
module _ (o : Stroke) (ds : List Float) (k : ℕ) (rs : List (Run Endpoint)) where
  abbrev floats : List (Run Endpoint) → List Float
  floats xs = flat_v (mesh_vertices o (cut_of o ds xs))

  abbrev count : List (Run Endpoint) → ℕ
  count xs = mesh_count o (cut_of o ds xs)

  floats_length : (xs : List (Run Endpoint)) → length (floats xs) ≡ 5 * count xs
  floats_length xs = omega (arith, length_flat_v (mesh_vertices o (cut_of o ds xs)), length_vertices o (cut_of o ds xs))

  floats_append : (xs ys : List (Run Endpoint)) → floats (xs ++ ys) ≡ floats xs ++ floats ys
  floats_append xs ys =
      let ms = cut_of o ds xs in
      let ns = cut_of o ds ys in
      rw (cut_append o.near ds o.offset xs ys, vertices_append o ms ns) (flat_append floats_of (mesh_vertices o ms) (mesh_vertices o ns))

  abbrev behind : List (Run Endpoint)
  behind = drop 1 (drop k rs)

  floats_are : floats rs ≡ floats (take k rs) ++ (floats (run_at k rs) ++ floats behind)
  floats_are =
      ap floats (sym (take-append-drop k rs)) ∙ floats_append (take k rs) (drop k rs)
      ∙ ap (λ (l : List Float). floats (take k rs) ++ l) (ap floats (sym (take-append-drop 1 (drop k rs))) ∙ floats_append (run_at k rs) behind)

  -- of a list that begins with the whole mesh
  module _ (v : List Float) (w : take (5 * count rs) v ≡ floats rs) where
    middle : take (5 * count (run_at k rs)) (drop (5 * count (take k rs)) v) ≡ floats (run_at k rs)
    middle =
        let e : v ≡ (floats (take k rs) ++ (floats (run_at k rs) ++ floats behind)) ++ drop (5 * count rs) v =
        sym (take-append-drop (5 * count rs) v) ∙ ap (λ (l : List Float). l ++ drop (5 * count rs) v) (w ∙ floats_are) in
        ap (λ (l : List Float). take (5 * count (run_at k rs)) (drop (5 * count (take k rs)) l)) e
        ∙ rw (← floats_length (run_at k rs), ← floats_length (take k rs)) (part_of_lem (floats (take k rs)) (floats (run_at k rs)) (floats behind) (drop (5 * count rs) v))

    abbrev handed : PartAnswer → Handed
    handed a = record { number = a.number; place = a.place; part = take a.length (drop a.start v) }

    at_part : handed (part_at (count (take k rs)) (count (run_at k rs))) ≡ record { number = number_of accepted; place = 0; part = floats (run_at k rs) }
    unfolding part_at
    at_part = go (eqb (count (run_at k rs)) 0) refl
      where
        go : (t : Bool) → eqb (count (run_at k rs)) 0 ≡ t
            → handed (cond t (with_part 0 0) (with_part (5 * count (take k rs)) (5 * count (run_at k rs)))) ≡ record { number = number_of accepted; place = 0; part = floats (run_at k rs) }
        go true p = let z = eqb-true (count (run_at k rs)) 0 p in rw (← empty (floats (run_at k rs)) (omega (arith, floats_length (run_at k rs), z)))
        go false p = rw middle

-- ---- the call, of what the mesh call wrote
module _ (verbs : List ℕ) (coords : List Float) (options : Options) (ds : List Float) (o : Stroke) (e : EarnsNone verbs coords options ds o) (k : ℕ) where
  abbrev rs : List (Run Endpoint)
  rs = runs_of verbs coords

  abbrev ms : List (Run Endpoint)
  ms = path_runs o ds verbs coords

  handed_is : (v : List Float) → 5 * mesh_count o ms ≤ length v → take (5 * mesh_count o ms) v ≡ flat_v (mesh_vertices o ms) → k < length rs
      → handed_of verbs coords options ds k v ≡ record { number = number_of accepted; place = 0; part = flat_v (mesh_vertices o (cut_of o ds (run_at k rs))) }
  unfolding handed_of part_of stroked_part_of found_of
  handed_is v room w h = rw (e.within, e.accepted, le-ltb (length v / 5) (mesh_count o ms) (omega (arith, room)), lt-ltb k (length rs) h) (at_part o ds k rs v w)

  pub is_wrote : (l : Lists) → 5 * mesh_count o ms ≤ length l.vertices → mesh_count o ms ≤ length l.sources → 3 * length (mesh_triangles o 0 ms) ≤ length l.triangles
      → Wrote verbs coords options ds o k (outcome_of verbs coords options ds l).lists.vertices
  is_wrote l h i g =
      let v = (outcome_of verbs coords options ds l).lists.vertices in
      let w : take (5 * mesh_count o ms) v ≡ flat_v (mesh_vertices o ms) = ((demand_3 verbs coords options ds o e l).rooms.enough h i g).vertices in
      let n : length (take (5 * mesh_count o ms) v) ≡ 5 * mesh_count o ms = ap (λ (x : List Float). length x) w ∙ floats_length o ds k rs rs in
      let r : 5 * mesh_count o ms ≤ length v = omega (arith, rw length-take at n) in
      record { run = handed_is v r w }
