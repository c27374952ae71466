-- A run's items: their strip is rule 9's, every arc is held, and so demand 3. Assumes nothing.
use Prim.Native.Nat.{ℕ, ◌+◌, ◌-◌, ◌<◌}
use mathlib.Core.Path.{◌≡◌, refl, sym, ap, ◌∙◌}
use mathlib.Core.Bool.{true, false}
use mathlib.Core.List.{List, [], ◌∷◌, ◌++◌, append_assoc, append-nil}
use mathlib.Core.Logic.{◌≢◌}
use native.Mathlib.Omega.{arith}
use Rattle.endpoint.specs.Endpoint.{side_count_of}
use Rattle.endpoint.specs.declared.EndpointData.{EndpointData}
use Rattle.endpoint.specs.declared.SidePoints.{SidePoints}
use Rattle.endpoint.specs.declared.SidePoints.TheVariants.{Single, Pair}
use Rattle.strip.specs.declared.section.Section.{Section}
use Rattle.triangles.specs.Facts.{AllOwn, Linked}
use Rattle.strip.specs.Joint.{joint_count, vertex_count}
use Rattle.strip.specs.Section.{section_of, before_of, after_of, sections}
use Rattle.strip.specs.Triangle.{between, strip_of, through, triangles_of}
use Rattle.triangles.specs.Tri.{Tri}
use Rattle.strip.proofs.Joints.{side_few}
use Rattle.strip.proofs.Facts.Ladder.{ladder, between_both, before_n, after_n, after_p, in_p, in_n, inner, inner_triangles}
use Rattle.strip.proofs.Facts.Named.{open_named, closed_named}
use Rattle.strip.proofs.Facts.Owns.{open_own, closed_own}
use Rattle.strip.proofs.Facts.Shares.{open_linked, closed_linked}
use Rattle.triangles.proofs.Having.{in_a_lem, in_b_lem, in_c_lem}
use Rattle.triangles.specs.Attached.{first, later, Spans, Covers}
use Rattle.braid.specs.Weave.{Item, added, strip, woven, Held}
use Rattle.braid.specs.Round.{ones, Levels, side_arc, joint_items, onward, start_cap, end_cap, open_items, closed_items}
use Rattle.braid.proofs.Woven.{woven_own, woven_named, woven_joined}

-- the strip of the items
strip_ones : (ts : List Tri) (ps : List Item) → strip (ones ts ++ ps) ≡ ts ++ strip ps
unfolding strip ones
strip_ones [] ps = refl
strip_ones (t ∷ ts) ps = ap (λ (l : List Tri). t ∷ l) (strip_ones ts ps)

strip_side : (l k : ℕ) (s : SidePoints) (ps : List Item) → strip (side_arc l k s ++ ps) ≡ strip ps
unfolding strip side_arc
strip_side l k (Single a b) ps = refl
strip_side l k (Pair a b c d) ps = refl

strip_joint : (ls : Levels) (k : ℕ) (j : EndpointData) (ps : List Item) → strip (joint_items ls k j ++ ps) ≡ between (before_of k j) (after_of k j) ++ strip ps
strip_joint ls k j ps =
    let m = k + side_count_of j.positive in
    let x : List Item = ones (between (before_of k j) (after_of k j)) in
    let y : List Item = side_arc (ls.positive j) k j.positive in
    let z : List Item = side_arc (ls.negative j) m j.negative in
    ap strip (append_assoc x (y ++ z) ps) ∙ strip_ones (between (before_of k j) (after_of k j)) ((y ++ z) ++ ps)
    ∙ ap (λ (l : List Tri). between (before_of k j) (after_of k j) ++ l)
    (ap strip (append_assoc y z ps) ∙ strip_side (ls.positive j) k j.positive (z ++ ps) ∙ strip_side (ls.negative j) m j.negative ps)

strip_onward : (ls : Levels) (end : Section → List Item) (es : List Section) → ((s : Section) → strip (end s) ≡ strip_of s es)
    → (js : List EndpointData) (s : Section) (k : ℕ) → strip (onward ls end s k js) ≡ strip_of s (sections k js ++ es)
unfolding onward sections strip_of
strip_onward ls end es f [] s k = f s
strip_onward ls end es f (j ∷ js) s k =
    let m = k + joint_count j in
    let rest : List Item = onward ls end (after_of k j) m js in
    strip_ones (between s (before_of k j)) (joint_items ls k j ++ rest)
    ∙ ap (λ (l : List Tri). between s (before_of k j) ++ l)
    (strip_joint ls k j rest ∙ ap (λ (l : List Tri). between (before_of k j) (after_of k j) ++ l) (strip_onward ls end es f js (after_of k j) m))

pub strip_open : (ls : Levels) (s e k : ℕ) (j i : EndpointData) (js : List EndpointData) → strip (open_items ls s e k j i js) ≡ triangles_of false k (j ∷ i ∷ js)
unfolding through sections strip_of strip
strip_open ls s e k j i js =
    let m = k + joint_count j in
    let rest : List Item = onward ls (end_cap e) (after_of m i) (m + joint_count i) js in
    strip_joint ls k j (ones (between (after_of k j) (before_of m i)) ++ (start_cap s (after_of k j) ++ (joint_items ls m i ++ rest)))
    ∙ ap (λ (l : List Tri). between (before_of k j) (after_of k j) ++ l)
    (strip_ones (between (after_of k j) (before_of m i)) (start_cap s (after_of k j) ++ (joint_items ls m i ++ rest))
    ∙ ap (λ (l : List Tri). between (after_of k j) (before_of m i) ++ l)
    (strip_joint ls m i rest
    ∙ ap (λ (l : List Tri). between (before_of m i) (after_of m i) ++ l) (strip_onward ls (end_cap e) [] (λ x. refl) js (after_of m i) (m + joint_count i))))

pub strip_closed : (ls : Levels) (k : ℕ) (j i : EndpointData) (js : List EndpointData) → strip (closed_items ls k j i js) ≡ triangles_of true k (j ∷ i ∷ js)
unfolding through sections strip_of strip
strip_closed ls k j i js =
    let m = k + joint_count j in
    let b = before_of k j in
    strip_joint ls k j (onward ls (λ s. ones (between s b)) (after_of k j) m (i ∷ js))
    ∙ ap (λ (l : List Tri). between b (after_of k j) ++ l)
    (strip_onward ls (λ s. ones (between s b)) (b ∷ []) (λ x. home x b) (i ∷ js) (after_of k j) m)
  where
    home : (x y : Section) → strip (ones (between x y)) ≡ strip_of x (y ∷ [])
    home x y = ap strip (sym (append-nil (ones (between x y)))) ∙ strip_ones (between x y) []

-- which two vertices the last triangle has
abbrev pub tri : ℕ → ℕ → ℕ → Tri
tri n p x = record { a = n; b = p; c = x }

pub span_ab : (n p x : ℕ) (seen : List Tri) → Spans n p (tri n p x ∷ seen)
span_ab n p x seen = record { on = tri n p x; has = first refl; has_a = in_a_lem p x n; has_b = in_b_lem n x p }

pub span_bc : (n p x : ℕ) (seen : List Tri) → Spans p x (tri n p x ∷ seen)
span_bc n p x seen = record { on = tri n p x; has = first refl; has_a = in_b_lem n x p; has_b = in_c_lem n p x }

pub span_ac : (n p x : ℕ) (seen : List Tri) → Spans n x (tri n p x ∷ seen)
span_ac n p x seen = record { on = tri n p x; has = first refl; has_a = in_a_lem p x n; has_b = in_c_lem n p x }

pub span_later : (a b : ℕ) (t : Tri) (seen : List Tri) → Spans a b seen → Spans a b (t ∷ seen)
span_later a b t seen s = record { on = s.on; has = later s.has; has_a = s.has_a; has_b = s.has_b }

pub span_swap : (a b : ℕ) (seen : List Tri) → Spans a b seen → Spans b a seen
span_swap a b seen s = record { on = s.on; has = s.has; has_a = s.has_b; has_b = s.has_a }

-- from one section to the next: both are held from then on
held_edge : (n p m q : ℕ) (seen : List Tri) (ps : List Item) → n ≢ p → p ≢ q → n ≢ q → q ≢ m → n ≢ m
    → ((on : List Tri) → Spans n p on → Spans q m on → Held on ps) → Held seen (ones (between (section_of n p) (section_of m q)) ++ ps)
unfolding ones ladder
held_edge n p m q seen ps f g h i j go =
    rw (between_both n p m q q m (refl, refl, f, g, h, i, j))
    (go (tri n q m ∷ tri n p q ∷ seen) (span_later n p (tri n q m) (tri n p q ∷ seen) (span_ab n p q seen)) (span_bc n q m (tri n p q ∷ seen)))

-- a joint holds its own arcs, and the section after it where the one before it is held
held_joint : (ls : Levels) (k : ℕ) (j : EndpointData) (seen : List Tri) (ps : List Item)
    → ((on : List Tri) → (Spans k (before_n k j) seen → Spans (after_p k j) (after_n k j) on) → Held on ps) → Held seen (joint_items ls k j ++ ps)
unfolding ones ladder inner in_p in_n side_arc
held_joint ls k j seen ps on = rw (inner_triangles k j) (go j.positive j.negative on)
  where
    go : (s t : SidePoints)
        → ((on : List Tri) → (Spans k (k + side_count_of s) seen → Spans (k + side_count_of s - 1) (k + side_count_of s + side_count_of t - 1) on) → Held on ps)
        → Held seen
        ((ones (ladder (k + side_count_of s) k (in_p k s ++ in_n (k + side_count_of s) t)) ++ (side_arc (ls.positive j) k s ++ side_arc (ls.negative j) (k + side_count_of s) t)) ++ ps)
    go (Single a b) (Single c d) f =
        let q : k + 1 - 1 ≡ k = omega arith in
        let m : k + 1 + 1 - 1 ≡ k + 1 = omega arith in
        f seen (λ h. rw (q, m) h)
    go (Single a b) (Pair c d e x) f =
        let q : k + 1 - 1 ≡ k = omega arith in
        let m : k + 1 + 2 - 1 ≡ k + 1 + 1 = omega arith in
        (((λ z. omega arith), span_ac (k + 1) k (k + 1 + 1) seen), f (tri (k + 1) k (k + 1 + 1) ∷ seen) (λ h. rw (q, m) (span_bc (k + 1) k (k + 1 + 1) seen)))
    go (Pair a b c d) (Single e x) f =
        let q : k + 2 - 1 ≡ k + 1 = omega arith in
        let m : k + 2 + 1 - 1 ≡ k + 2 = omega arith in
        let l : List Tri = tri (k + 2) k (k + 1) ∷ seen in
        (((λ z. omega arith), span_bc (k + 2) k (k + 1) seen), f l (λ h. rw (q, m) (span_swap (k + 2) (k + 1) l (span_ac (k + 2) k (k + 1) seen))))
    go (Pair a b c d) (Pair e x y w) f =
        let q : k + 2 - 1 ≡ k + 1 = omega arith in
        let m : k + 2 + 2 - 1 ≡ k + 2 + 1 = omega arith in
        let l : List Tri = tri (k + 2) k (k + 1) ∷ seen in
        let t = tri (k + 2) (k + 1) (k + 2 + 1) in (
          ((λ z. omega arith), span_later k (k + 1) t l (span_bc (k + 2) k (k + 1) seen)),
          (((λ z. omega arith), span_ac (k + 2) (k + 1) (k + 2 + 1) l), f (t ∷ l) (λ h. rw (q, m) (span_bc (k + 2) (k + 1) (k + 2 + 1) l))),
        )

-- an edge and the joint at its end
held_step : (ls : Levels) (k n p : ℕ) (j : EndpointData) (seen : List Tri) (ps : List Item) → n ≢ p → n < k → p < k
    → ((on : List Tri) → Spans (after_p k j) (after_n k j) on → Held on ps) → Held seen (ones (between (section_of n p) (before_of k j)) ++ (joint_items ls k j ++ ps))
held_step ls k n p j seen ps f g h go =
    let q = side_few j.positive in
    held_edge n p (before_n k j) k seen (joint_items ls k j ++ ps) f (λ z. omega arith) (λ z. omega arith) (λ z. omega arith) (λ z. omega arith)
    (λ on x y. held_joint ls k j on ps (λ on' u. go on' (u y)))

held_onward : (ls : Levels) (end : Section → List Item) → ((seen : List Tri) (n p : ℕ) → n ≢ p → Spans p n seen → Held seen (end (section_of n p)))
    → (js : List EndpointData) (k n p : ℕ) (seen : List Tri) → n ≢ p → n < k → p < k → Spans p n seen → Held seen (onward ls end (section_of n p) k js)
unfolding onward
held_onward ls end last [] k n p seen f g h s = last seen n p f s
held_onward ls end last (j ∷ js) k n p seen f g h s =
    let q = side_few j.positive in
    let r = side_few j.negative in
    held_step ls k n p j seen (onward ls end (after_of k j) (k + joint_count j) js) f g h
    (λ on u. held_onward ls end last js (k + joint_count j) (after_n k j) (after_p k j) on (λ z. omega arith) (omega arith) (omega arith) u)

pub held_open : (ls : Levels) (s e k : ℕ) (j i : EndpointData) (js : List EndpointData) → Held [] (open_items ls s e k j i js)
held_open ls s e k j i js =
    let m = k + joint_count j in
    let q = side_few j.positive in
    let r = side_few j.negative in
    let q2 = side_few i.positive in
    let r2 = side_few i.negative in
    let rest : List Item = onward ls (end_cap e) (after_of m i) (m + joint_count i) js in
    held_joint ls k j [] (ones (between (after_of k j) (before_of m i)) ++ (start_cap s (after_of k j) ++ (joint_items ls m i ++ rest)))
    (λ on u. held_edge (after_n k j) (after_p k j) (before_n m i) m on (start_cap s (after_of k j) ++ (joint_items ls m i ++ rest))
    (λ z. omega arith) (λ z. omega arith) (λ z. omega arith) (λ z. omega arith) (λ z. omega arith)
    (λ on' x y. (
      ((λ z. omega arith), x),
      held_joint ls m i on' rest
          (λ on'' w. held_onward ls (end_cap e) (λ l n p d h. (((λ z. d (sym z)), h), tt)) js (m + joint_count i) (after_n m i) (after_p m i) on''
          (λ z. omega arith) (omega arith) (omega arith) (w y)),
    )))

held_ones : (seen ts : List Tri) → Held seen (ones ts)
unfolding ones
held_ones seen [] = tt
held_ones seen (t ∷ ts) = held_ones (t ∷ seen) ts

pub held_closed : (ls : Levels) (k : ℕ) (j i : EndpointData) (js : List EndpointData) → Held [] (closed_items ls k j i js)
unfolding onward
held_closed ls k j i js =
    let m = k + joint_count j in
    let q = side_few j.positive in
    let r = side_few j.negative in
    let q2 = side_few i.positive in
    let r2 = side_few i.negative in
    held_joint ls k j [] (onward ls (λ s. ones (between s (before_of k j))) (after_of k j) m (i ∷ js))
    (λ on u. held_step ls m (after_n k j) (after_p k j) i on (onward ls (λ s. ones (between s (before_of k j))) (after_of m i) (m + joint_count i) js)
    (λ z. omega arith) (omega arith) (omega arith)
    (λ on' w. held_onward ls (λ s. ones (between s (before_of k j))) (λ l n p d h. held_ones l (between (section_of n p) (before_of k j)))
    js (m + joint_count i) (after_n m i) (after_p m i) on' (λ z. omega arith) (omega arith) (omega arith) w))

-- demand 3 of a run with arcs
pub open_covers : (ls : Levels) (s e k : ℕ) (j i : EndpointData) (js : List EndpointData)
    → Covers k (k + vertex_count (j ∷ i ∷ js) + added (open_items ls s e k j i js)) (woven (k + vertex_count (j ∷ i ∷ js)) (open_items ls s e k j i js))
open_covers ls s e k j i js =
    let ps : List Item = open_items ls s e k j i js in
    let base = k + vertex_count (j ∷ i ∷ js) in
    let own : AllOwn k base (strip ps) = rw (strip_open ls s e k j i js) (open_own k j (i ∷ js)) in
    let link : Linked (strip ps) = rw (strip_open ls s e k j i js) (open_linked k j (i ∷ js)) in
    record {
      own = woven_own k base (base + added ps) base [] ps tt own (held_open ls s e k j i js) (omega arith) (omega arith);
      named = woven_named k base ps (λ x f g. rw (strip_open ls s e k j i js) (open_named k j i js x f g));
      joined = woven_joined k base ps own link (held_open ls s e k j i js);
    }

pub closed_covers : (ls : Levels) (k : ℕ) (j i : EndpointData) (js : List EndpointData)
    → Covers k (k + vertex_count (j ∷ i ∷ js) + added (closed_items ls k j i js)) (woven (k + vertex_count (j ∷ i ∷ js)) (closed_items ls k j i js))
closed_covers ls k j i js =
    let ps : List Item = closed_items ls k j i js in
    let base = k + vertex_count (j ∷ i ∷ js) in
    let own : AllOwn k base (strip ps) = rw (strip_closed ls k j i js) (closed_own k j i js) in
    let link : Linked (strip ps) = rw (strip_closed ls k j i js) (closed_linked k j i js) in
    record {
      own = woven_own k base (base + added ps) base [] ps tt own (held_closed ls k j i js) (omega arith) (omega arith);
      named = woven_named k base ps (λ x f g. rw (strip_closed ls k j i js) (closed_named k j i js x f g));
      joined = woven_joined k base ps own link (held_closed ls k j i js);
    }
