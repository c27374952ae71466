-- Which moves an open and a closed run have, and that these are rule 9's triangles. The plan: `one` goes from a section over the next joint, `strip_moves` over
-- all joints and then home or nowhere, and `from_first` sets out from a run's first section. Assumes nothing.
use Prim.Native.Nat.{ℕ, ◌+◌, ◌<◌, ◌≤◌}
use mathlib.Core.Path.{◌≡◌, refl, sym, ap, ◌∙◌}
use mathlib.Core.Bool.{true, false}
use mathlib.Core.List.{List, [], ◌∷◌, ◌++◌, append_assoc, append-nil}
use mathlib.Core.Logic.{◌≢◌}
use native.Mathlib.Omega.{arith}
use Rattle.endpoint.specs.declared.EndpointData.{EndpointData}
use Rattle.strip.specs.declared.section.Section.{Section}
use Rattle.strip.specs.Joint.{joint_count}
use Rattle.strip.specs.Section.{section_of, before_of, after_of, sections}
use Rattle.strip.specs.Triangle.{between, strip_of, through, triangles_of}
use Rattle.strip.proofs.Joints.{joint_few}
use Rattle.strip.proofs.Runs.{strip_next, strip_two}
use Rattle.strip.proofs.Facts.Ladder.{Move, to_p, to_n, ladder, between_both, before_n, after_n, after_p, inner, joint_on}

-- to each joint's section before it, and within the joint
unfoldable pub moves_of : ℕ → List EndpointData → List Move
moves_of base [] = []
moves_of base (j ∷ js) = to_p base ∷ to_n (before_n base j) ∷ inner base j ++ moves_of (base + joint_count j) js

-- back to the first joint's section
abbrev pub home : ℕ → EndpointData → List Move
home base j = to_p base ∷ to_n (before_n base j) ∷ []

pub moves_cons : (base : ℕ) (j : EndpointData) (js : List EndpointData) (zs : List Move)
    → moves_of base (j ∷ js) ++ zs ≡ to_p base ∷ to_n (before_n base j) ∷ inner base j ++ (moves_of (base + joint_count j) js ++ zs)
unfolding moves_of
moves_cons base j js zs = ap (λ (l : List Move). to_p base ∷ to_n (before_n base j) ∷ l) (append_assoc (inner base j) (moves_of (base + joint_count j) js) zs)

edge_on : (n p x y : ℕ) (ms : List Move) → ladder n p (to_p x ∷ to_n y ∷ ms) ≡ ladder n p (to_p x ∷ to_n y ∷ []) ++ ladder y x ms
unfolding ladder
edge_on n p x y ms = refl

-- two vertices, lo at least
abbrev Above : ℕ → ℕ → ℕ → Type 0
Above lo n p = (n ≢ p) × (lo ≤ n) × (lo ≤ p)

-- from a section of smaller numbers over the joint j, and then by the moves ms
one : (base : ℕ) (j : EndpointData) (js : List EndpointData) (n p : ℕ) (es : List Section) (ms : List Move) → (n ≢ p) × (n < base) × (p < base)
    → strip_of (after_of base j) (sections (base + joint_count j) js ++ es) ≡ ladder (after_n base j) (after_p base j) ms
    → strip_of (section_of n p) (sections base (j ∷ js) ++ es) ≡ ladder n p (to_p base ∷ to_n (before_n base j) ∷ inner base j ++ ms)
unfolding sections
one base j js n p es ms f x =
    let s = section_of n p in
    let b = before_of base j in
    let a = after_of base j in
    let rest : List Section = sections (base + joint_count j) js ++ es in
    strip_two s b a rest ∙ append_assoc (between s b) (between b a) (strip_of a rest)
    ∙ rw (x, edge_on n p base (before_n base j) (inner base j ++ ms), joint_on base j ms, between_both n p (before_n base j) base base (before_n base j) (omega (arith, joint_few j)))

-- the joints js, and then the moves zs to the sections es, which are right from any section whose numbers are lo at least
strip_moves : (lo : ℕ) (es : List Section) (zs : List Move) → ((n p : ℕ) → Above lo n p → strip_of (section_of n p) es ≡ ladder n p zs)
    → (js : List EndpointData) (base n p : ℕ) → Above lo n p → (n < base) × (p < base) → strip_of (section_of n p) (sections base js ++ es) ≡ ladder n p (moves_of base js ++ zs)
unfolding moves_of sections
strip_moves lo es zs last [] base n p f g = last n p f
strip_moves lo es zs last (x ∷ js) base n p f g =
    let few = joint_few x in
    one base x js n p es (moves_of (base + joint_count x) js ++ zs) (omega arith)
    (strip_moves lo es zs last js (base + joint_count x) (after_n base x) (after_p base x) (omega arith) (omega arith))
    ∙ ap (ladder n p) (sym (moves_cons base x js zs))

-- a run of one joint at least, from its first section on
from_first : (base : ℕ) (j : EndpointData) (js : List EndpointData) (es : List Section) (ms : List Move)
    → strip_of (after_of base j) (sections (base + joint_count j) js ++ es) ≡ ladder (after_n base j) (after_p base j) ms
    → strip_of (before_of base j) (after_of base j ∷ (sections (base + joint_count j) js ++ es)) ≡ ladder (before_n base j) base (inner base j ++ ms)
from_first base j js es ms x = strip_next (before_of base j) (after_of base j) (sections (base + joint_count j) js ++ es) ∙ rw (x, joint_on base j ms)

-- an open run's triangles
pub open_moves : (base : ℕ) (j : EndpointData) (js : List EndpointData) → triangles_of false base (j ∷ js) ≡ ladder (before_n base j) base (inner base j ++ moves_of (base + joint_count j) js)
unfolding through sections strip_of ladder
open_moves base j js =
    let few = joint_few j in
    let m = base + joint_count j in
    from_first base j js [] (moves_of m js) (strip_moves 0 [] [] (λ n p f. refl) js m (after_n base j) (after_p base j) (omega arith) (omega arith) ∙ rw (append-nil (moves_of m js)))

-- a closed run's, of two joints at least
pub closed_moves : (base : ℕ) (j i : EndpointData) (js : List EndpointData)
    → triangles_of true base (j ∷ i ∷ js) ≡ ladder (before_n base j) base (inner base j ++ (moves_of (base + joint_count j) (i ∷ js) ++ home base j))
unfolding through sections strip_of
closed_moves base j i js =
    let few = joint_few j in
    let more = joint_few i in
    let m = base + joint_count j in
    let es : List Section = before_of base j ∷ [] in
    from_first base j (i ∷ js) es (moves_of m (i ∷ js) ++ home base j)
    (one m i js (after_n base j) (after_p base j) es (moves_of (m + joint_count i) js ++ home base j) (omega arith)
    (strip_moves m es (home base j) (λ n p f. append-nil (between (section_of n p) (before_of base j)) ∙ between_both n p (before_n base j) base base (before_n base j) (omega arith))
    js (m + joint_count i) (after_n m i) (after_p m i) (omega arith) (omega arith))
    ∙ ap (ladder (after_n base j) (after_p base j)) (sym (moves_cons m i js (home base j))))
