-- The strip by steps is the strip by sections: what rule 9 says of a run's sections is what its joints' steps write. The plan: `strip_steps` goes joint by joint
-- on from a run that has begun; `triangles_from_lem` begins it and, in a closed run, goes round to its first section. Assumes nothing.
use Prim.Native.Nat.{ℕ, ◌+◌}
use native.Mathlib.Omega.{arith}
use mathlib.Core.Path.{◌≡◌, refl, sym, ap, ◌∙◌}
use mathlib.Core.Bool.{Bool, true, false, cond}
use mathlib.Core.List.{List, [], ◌∷◌, ◌++◌, append_assoc, append-nil}
use Rattle.endpoint.specs.declared.EndpointData.{EndpointData}
use Rattle.endpoint.specs.declared.VertexId.{VertexId}
use Rattle.strip.specs.declared.Strip.{Strip}
use Rattle.strip.specs.declared.section.Section.{Section}
use Rattle.strip.specs.Joint.{joint_count}
use Rattle.strip.specs.Section.{section_of, before_of, after_of, sections}
use Rattle.triangles.specs.Tri.{Tri}
use Rattle.strip.specs.Triangle.{between, past, strip_of, through, triangles_of}
use Rattle.strip.specs.Strip.{start_of, next_of, step_triangles, step_of, steps_of, triangles_from}
use Rattle.strip.proofs.Triangles.{between_same}
use Rattle.strip.proofs.Steps.{step_next}

pub strip_next : (s e : Section) (es : List Section) → strip_of s (e ∷ es) ≡ between s e ++ strip_of e es
unfolding strip_of
strip_next s e es = refl

pub strip_two : (s b a : Section) (es : List Section) → strip_of s (b ∷ a ∷ es) ≡ past s b a ++ strip_of a es
unfolding strip_of
strip_two s b a es = sym (append_assoc (between s b) (between b a) (strip_of a es))

strip_home : (closed : Bool) (s e : Section) → strip_of e (cond closed (s ∷ []) []) ≡ cond closed (between e s) []
unfolding strip_of
strip_home true s e = append-nil (between e s)
strip_home false s e = refl

-- a step of a run that has begun
step_begun : (s : Strip) (j : EndpointData) → s.begun ≡ true → past s.last (before_of (next_of s) j) (after_of (next_of s) j) ≡ step_triangles s j
unfolding step_triangles
step_begun s j b = rw b

steps_first : (s : Strip) (js : List EndpointData) → s.begun ≡ true → (steps_of s js).first ≡ s.first
unfolding steps_of step_of
steps_first s [] b = refl
steps_first s (j ∷ js) b = steps_first (step_of s j) js refl ∙ rw b

strip_steps : (s : Strip) (js : List EndpointData) (zs : List Section) → s.begun ≡ true
    → strip_of s.last (sections (next_of s) js ++ zs) ≡ triangles_from s js ++ strip_of (steps_of s js).last zs
unfolding sections triangles_from steps_of step_of
strip_steps s [] zs b = refl
strip_steps s (j ∷ js) zs b =
    let base = next_of s in
    let rest : List Section = sections (base + joint_count j) js ++ zs in
    let on : List Tri = strip_of (steps_of (step_of s j) js).last zs in
    let e : strip_of (after_of base j) rest ≡ triangles_from (step_of s j) js ++ on = rw (← step_next s j) (strip_steps (step_of s j) js zs refl) in
    strip_two s.last (before_of base j) (after_of base j) rest ∙ rw (step_begun s j b, e) (sym (append_assoc (step_triangles s j) (triangles_from (step_of s j) js) on))

-- the step that begins a run
start_triangles : (base : VertexId) (j : EndpointData) → step_triangles (start_of base) j ≡ between (before_of (next_of (start_of base)) j) (after_of (next_of (start_of base)) j)
unfolding step_triangles
start_triangles base j = rw (between_same (before_of (next_of (start_of base)) j))

-- a run's triangles are those of its steps, and in a closed run those round to the first section
triangles_from_lem : (closed : Bool) (base : VertexId) (js : List EndpointData)
    → triangles_of closed (next_of (start_of base)) js ≡ triangles_from (start_of base) js ++ cond closed (between (steps_of (start_of base) js).last (steps_of (start_of base) js).first) []
unfolding through sections triangles_from steps_of step_of
triangles_from_lem true base [] = sym (between_same (section_of 0 0))
triangles_from_lem false base [] = refl
triangles_from_lem closed base (j ∷ js) =
    let s = step_of (start_of base) j in
    let b = before_of (next_of (start_of base)) j in
    let a = after_of (next_of (start_of base)) j in
    let zs : List Section = cond closed (b ∷ []) [] in
    let f : (steps_of s js).first ≡ b = steps_first s js refl in
    let l = (steps_of s js).last in
    let e : strip_of a (sections (next_of (start_of base) + joint_count j) js ++ zs) ≡ triangles_from s js ++ strip_of l zs = rw (← step_next (start_of base) j) (strip_steps s js zs refl) in
    strip_next b a (sections (next_of (start_of base) + joint_count j) js ++ zs)
    ∙ rw (e, strip_home closed b l, f, ← start_triangles base j) (sym (append_assoc (step_triangles (start_of base) j) (triangles_from s js) (cond closed (between l b) [])))

pub triangles_are : (closed : Bool) (base : VertexId) (js : List EndpointData)
    → triangles_of closed base.0 js ≡ triangles_from (start_of base) js ++ cond closed (between (steps_of (start_of base) js).last (steps_of (start_of base) js).first) []
triangles_are closed base js = let z : base.0 ≡ next_of (start_of base) = omega arith in ap (λ (n : ℕ). triangles_of closed n js) z ∙ triangles_from_lem closed base js
