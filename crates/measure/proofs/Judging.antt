-- What the passes tell is what the definitions say of the runs; and refusals 1 to 4 and 26, whatever would come then. Assumes nothing.
use Prim.Native.Nat.{ℕ, ◌+◌, ◌-◌, ◌*◌, ◌/◌, ◌≤◌}
use mathlib.Core.Path.{◌≡◌, refl, ap, ◌∙◌}
use mathlib.Core.Bool.{Bool, true, false, cond}
use mathlib.Core.List.{List, ◌++◌}
use native.Mathlib.Omega.{arith}
use borrow.Author.Tests.{ltb-false, ne_eqb}
use lib.Dec.{ltb, eqb}
use lib.Ieee.{Float}
use lib.ListN.{length, take, drop, take-append-drop}
use lib.Seq.{take-add}
use Rattle.std.specs.Prelude.{Ok, Err}
use Rattle.refusals.specs.Numbers.{number_of, verdict_of, accepted, vertex_room, no_run}
use Rattle.refusals.specs.declared.Refusal.{Refusal}
use Rattle.refusals.specs.declared.Refusal.TheVariants.{OutOfRange, TooManyVerbs, Verb, Coordinate, TooManyCuts}
use Rattle.endpoint.specs.declared.Endpoint.{Endpoint}
use Rattle.options.specs.Options.{stroke_of}
use Rattle.options.specs.declared.Options.{Options}
use Rattle.options.specs.declared.Stroke.{Stroke}
use Rattle.cuts.specs.Checked.{cut_checked_of}
use Rattle.cuts.proofs.Runs.{cut_append}
use Rattle.path.specs.Path.{Sound}
use Rattle.path.specs.Runs.{Run}
use Rattle.pieces.specs.Piece.{behind}
use Rattle.pieces.specs.declared.Place.{Place}
use Rattle.runs.specs.Cursor.{undrawn}
use Rattle.runs.specs.Part.{run_at, told_of}
use Rattle.runs.specs.Runs.{runs_of, cut_of, CutsFew, mesh_count, mesh_vertices, mesh_piece}
use Rattle.runs.proofs.Runs.{length_vertices, count_append}
use Rattle.mesh.specs.Answer.{with_place}
use Rattle.mesh.specs.declared.answer.MeshAnswer.{MeshAnswer}
use Rattle.mesh.proofs.Rooms.{counts_are, counts_limited}
use Rattle.measure.specs.Answer.{measured_answer_of, with_part, without_part, part_answer_of, once_accepted}
use Rattle.measure.specs.Judged.{Judgeable, judged_of}
use Rattle.measure.specs.Measure.{counts_of}
use Rattle.measure.specs.Part.{part_at, found_of, stroked_part_of, part_of, handed_answer_of, handed_of}
use Rattle.measure.specs.declared.answer.PartAnswer.{PartAnswer}
use Rattle.measure.specs.declared.answer.PartError.{PartError}
use Rattle.measure.specs.declared.answer.PartError.TheVariants.{Refused, VertexRoom, NoRun}

-- ---- refusals 1 to 4 and 26
pub measure_refused : (r : Refusal) (next : MeshAnswer) → measured_answer_of (Err r) ≡ once_accepted with_place (verdict_of r).number (verdict_of r).place next
measure_refused OutOfRange next = refl
measure_refused TooManyVerbs next = refl
measure_refused (Verb i) next = refl
measure_refused (Coordinate i) next = refl
measure_refused TooManyCuts next = refl

pub part_refused : (r : Refusal) (next : PartAnswer) → part_answer_of (Err (Refused r)) ≡ once_accepted without_part (verdict_of r).number (verdict_of r).place next
part_refused OutOfRange next = refl
part_refused TooManyVerbs next = refl
part_refused (Verb i) next = refl
part_refused (Coordinate i) next = refl
part_refused TooManyCuts next = refl

-- ---- the counts
pub counts_told : (o : Stroke) (rs : List (Run Endpoint)) {c : Place} → c ≡ behind undrawn (mesh_piece o undrawn rs) → measured_answer_of (Ok (record { vertices = c.vertices; triangles = c.triangles })) ≡ counts_of o rs
counts_told o rs {c} e = let h = counts_are o rs c e in rw (h.0, h.1)

-- ---- a run's vertices: those up to its end are those before it and its own, of all its dashes
module _ (o : Stroke) (ds : List Float) where
  abbrev count : List (Run Endpoint) → ℕ
  count rs = mesh_count o (cut_of o ds rs)

  both_are : (xs ys : List (Run Endpoint)) → count (xs ++ ys) ≡ count xs + count ys
  both_are xs ys = rw (cut_append o.near ds o.offset xs ys) (count_append o (cut_of o ds xs) (cut_of o ds ys))

  module _ (k : ℕ) (rs : List (Run Endpoint)) where
    pub through_is : count (take (k + 1) rs) ≡ count (take k rs) + count (run_at k rs)
    through_is = rw (take-add k 1 rs) (both_are (take k rs) (run_at k rs))

    through_few : count (take (k + 1) rs) ≤ count rs
    through_few = omega (arith, both_are (take (k + 1) rs) (drop (k + 1) rs), ap (λ (l : List (Run Endpoint)). count l) (take-append-drop (k + 1) rs))

    pub told_judged : (places : ℕ) → judged_of (told_of o ds k rs) k places ≡ found_of o ds rs k places
    unfolding judged_of found_of
    told_judged places =
        let n : count (take (k + 1) rs) - count (take k rs) ≡ count (run_at k rs) = omega (arith, through_is) in
        let v : 0 + length (mesh_vertices o (cut_of o ds rs)) ≡ count rs = omega (arith, length_vertices o (cut_of o ds rs)) in
        rw (v, n)

pub told_judgeable : (o : Stroke) (ds : List Float) (k : ℕ) (verbs : List ℕ) (coords : List Float) → Sound verbs coords × CutsFew o ds (runs_of verbs coords)
    → Judgeable (told_of o ds k (runs_of verbs coords))
told_judgeable o ds k verbs coords s =
    let rs = runs_of verbs coords in
    record { order = omega (arith, through_is o ds k rs); few = omega (arith, through_few o ds k rs, (counts_limited o ds verbs coords s.0 s.1).0) }

-- ---- where the part stands
module _ (before own : ℕ) where
  pub part_none : 5 * own ≡ 0 → with_part 0 (5 * own) ≡ part_at before own
  unfolding part_at
  part_none e = let z : own ≡ 0 = omega (arith, e) in rw z

  pub part_some : (5 * own ≡ 0 → ⊥) → with_part (5 * before) (5 * own) ≡ part_at before own
  unfolding part_at
  part_some d = rw (ne_eqb own 0 (λ e. d (omega (arith, e))))

-- ---- the part lies within the list
abbrev Within : ℕ → PartAnswer → Type 0
Within floats a = a.start + a.length ≤ floats

once_within : (floats number place : ℕ) (next : PartAnswer) → Within floats next → Within floats (once_accepted without_part number place next)
once_within floats number place next h = go (eqb number (number_of accepted))
  where
    go : (t : Bool) → Within floats (cond t next (without_part number place))
    go true = h
    go false = omega arith

found_within : (o : Stroke) (ds : List Float) (rs : List (Run Endpoint)) (k floats : ℕ) → Within floats (found_of o ds rs k (floats / 5))
unfolding found_of part_at
found_within o ds rs k floats =
    let own = mesh_count o (cut_of o ds (run_at k rs)) in
    go (mesh_count o (cut_of o ds rs)) (mesh_count o (cut_of o ds (take k rs))) own (omega (arith, through_is o ds k rs, through_few o ds k rs)) (ltb (floats / 5) (mesh_count o (cut_of o ds rs))) refl (ltb k (length rs)) (eqb own 0)
  where
    go : (n before own : ℕ) → before + own ≤ n → (a : Bool) → ltb (floats / 5) n ≡ a → (b c : Bool)
        → Within floats (cond a (without_part (number_of vertex_room) 0) (cond b (cond c (with_part 0 0) (with_part (5 * before) (5 * own))) (without_part (number_of no_run) 0)))
    go n before own h true p b c = omega arith
    go n before own h false p false c = omega arith
    go n before own h false p true true = omega arith
    go n before own h false p true false = omega (arith, ltb-false (floats / 5) n p)

pub part_within : (verbs : List ℕ) (coords : List Float) (options : Options) (ds : List Float) (k floats : ℕ) → Within floats (part_of verbs coords options ds k floats)
unfolding part_of stroked_part_of
part_within verbs coords options ds k floats =
    let a = stroke_of options ds in
    let o = a.stroke in
    let b = cut_checked_of o.near ds o.offset verbs coords in
    let found = found_of o ds (runs_of verbs coords) k (floats / 5) in
    once_within floats a.number a.place (once_accepted without_part b.number b.place found) (once_within floats b.number b.place found (found_within o ds (runs_of verbs coords) k floats))

-- ---- what is handed back
module _ (verbs : List ℕ) (coords : List Float) (options : Options) (ds : List Float) (k : ℕ) (v : List Float) {a : PartAnswer} (e : a ≡ part_of verbs coords options ds k (length v)) where
  pub told_within : a.start + a.length ≤ length v
  told_within = rw e (part_within verbs coords options ds k (length v))

  pub told_handed : record { number = a.number; place = a.place; part = take (a.start + a.length - a.start) (drop a.start v) } ≡ handed_of verbs coords options ds k v
  unfolding handed_of
  told_handed = let n : a.start + a.length - a.start ≡ a.length = omega arith in rw (n, e)

-- a refusal hands nothing back
module _ (v : List Float) where
  refused_none : (e : PartError) → handed_answer_of (Err e) ≡ (let p = part_answer_of (Err e) in record { number = p.number; place = p.place; part = take p.length (drop p.start v) })
  refused_none (Refused OutOfRange) = refl
  refused_none (Refused TooManyVerbs) = refl
  refused_none (Refused (Verb i)) = refl
  refused_none (Refused (Coordinate i)) = refl
  refused_none (Refused TooManyCuts) = refl
  refused_none VertexRoom = refl
  refused_none NoRun = refl

module _ (verbs : List ℕ) (coords : List Float) (options : Options) (ds : List Float) (k : ℕ) (v : List Float) (e : PartError) where
  pub told_refused : part_answer_of (Err e) ≡ part_of verbs coords options ds k (length v) → handed_answer_of (Err e) ≡ handed_of verbs coords options ds k v
  unfolding handed_of
  told_refused h = refused_none v e ∙ rw h
