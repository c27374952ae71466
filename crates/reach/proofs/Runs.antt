-- All runs of a mesh. What all vertices of a list have, and how they follow each other, is read off by their number; and so no advancement falls along a run's own vertices, and its arcs'
-- are h long: read from its first vertex on, in the list as the call left it. Assumes nothing.
use mathlib.Core.Path.{◌≡◌, sym, ap, ◌∙◌, subst}
use Prim.Native.Nat.{ℕ, zero, suc, ◌+◌, ◌-◌, ◌≤◌, ◌<◌}
use mathlib.Core.List.{List, [], ◌∷◌, ◌++◌}
use native.Mathlib.Nat.{add_assoc}
use native.Mathlib.Omega.{arith}
use lib.Ieee.{Float}
use lib.ListN.{length, get_or, length-append, get_or-append}
use lib.Seq.{get_or-append-add}
use Rattle.endpoint.specs.declared.Endpoint.{Endpoint}
use Rattle.options.specs.declared.Stroke.{Stroke}
use Rattle.path.specs.Runs.{Run}
use Rattle.lists.specs.All.{All}
use Rattle.lists.proofs.All.{all_append}
use Rattle.pieces.specs.Piece.{Vertex}
use Rattle.run.specs.Run.{shape_vertices, shape_count}
use Rattle.run.proofs.Whole.{length_shape}
use Rattle.runs.specs.Runs.{drawn_of, mesh_vertices}
use Rattle.mesh.specs.Mesh.{Outcome}
use Rattle.rounding.proofs.Scales.{one}
use Rattle.rounding.proofs.Results.{Bounded}
use Rattle.far.proofs.Ranges.{Limit}
use Rattle.reach.specs.Reach.{AtMost, float_at, NoFall, base_count, NoneFalls}
use Rattle.reach.specs.Lengths.{AboutCentre, AllLong}
use Rattle.reach.proofs.Widths.{Wide}
use Rattle.reach.proofs.Advancements.{Rising}
use Rattle.reach.proofs.Arcs.{OnArc}
use Rattle.reach.proofs.Rims.{arc_long}
use Rattle.reach.proofs.Drawn.{Drawn}
use Rattle.reach.proofs.Mesh.{Spelt, blank}

-- ---- the statement's words
pub at_most : {z : Float} {k : ℕ} → Bounded z k → AtMost k z
unfolding one
at_most b = record { down = b.s; units = b.size; value = b.value; most = b.within }

-- ---- a property of all vertices of a list, by their number
pub all_at : {A : Type 0} (P : A → Type 0) (xs : List A) (d : A) (i : ℕ) → All P xs → i < length xs → P (get_or xs i d)
all_at P [] d i a h = absurd (omega arith)
all_at P (x ∷ xs) d zero a h = a.0
all_at P (x ∷ xs) d (suc i) a h = all_at P xs d i a.1 (omega arith)

rising_at : (m : ℕ) (vs : List Vertex) (i : ℕ) → Rising m vs → suc i < length vs → NoFall (get_or vs i blank).advancement (get_or vs (suc i) blank).advancement
unfolding one
rising_at m [] i r h = absurd (omega arith)
rising_at m (v ∷ []) i r h = absurd (omega arith)
rising_at m (v ∷ w ∷ vs) zero r h =
    let f = r.0 in
    let g = r.1.0 in
    record { first = f.units; second = g.units; first_is = f.value; second_is = g.value; rises = g.rises }
rising_at m (v ∷ w ∷ vs) (suc i) r h = rising_at r.0.units (w ∷ vs) i r.1 (omega arith)

-- the last of two lists, by their numbers in both
back_at : {A : Type 0} (xs ys : List A) (d : A) (i : ℕ) → length xs ≤ i → get_or (xs ++ ys) i d ≡ get_or ys (i - length xs) d
back_at xs ys d i h =
    let e : i ≡ length xs + (i - length xs) = omega arith in
    ap (λ (n : ℕ). get_or (xs ++ ys) n d) e ∙ get_or-append-add xs ys (i - length xs) d

-- ---- all runs
module _ (o : Stroke) (S : Wide o) (L : Limit o.near) where
  abbrev pub Goods : List (Run Endpoint) → Type 0
  Goods rs = All (λ (r : Run Endpoint). let s = drawn_of o r in Drawn o S L (base_count s) (shape_vertices o s)) rs

  pub mesh_all : (P : Vertex → Type 0) → ((n : ℕ) (vs : List Vertex) → Drawn o S L n vs → All P vs) → (rs : List (Run Endpoint)) → Goods rs → All P (mesh_vertices o rs)
  unfolding mesh_vertices
  mesh_all P f [] g = tt
  mesh_all P f (r ∷ rs) g = all_append P (shape_vertices o (drawn_of o r)) (mesh_vertices o rs) (f (base_count (drawn_of o r)) (shape_vertices o (drawn_of o r)) g.0) (mesh_all P f rs g.1)

  -- read from a vertex on, run by run
  module _ (out : Outcome) where
    abbrev pub Reads : ℕ → List Vertex → Type 0
    Reads base vs = (i : ℕ) → i < length vs → Spelt out.lists.vertices (base + i) (get_or vs i blank)

    reads_back : (base : ℕ) (vs ws : List Vertex) → Reads base (vs ++ ws) → Reads (base + length vs) ws
    reads_back base vs ws e i h =
        let f = e (length vs + i) (omega (arith, length-append vs ws)) in
        rw (get_or-append-add vs ws i blank) at (subst (λ (n : ℕ). Spelt out.lists.vertices n (get_or (vs ++ ws) (length vs + i) blank)) (sym (add_assoc base (length vs) i)) f)

    reads_front : (base : ℕ) (vs ws : List Vertex) → Reads base (vs ++ ws) → Reads base vs
    reads_front base vs ws e i h = rw (get_or-append vs ws blank i h) at (e i (omega (arith, length-append vs ws)))

    -- a run's own vertices, and its arcs'
    module _ (base n : ℕ) (vs : List Vertex) (D : Drawn o S L n vs) (e : Reads base vs) where
      both : Reads base (D.strip ++ D.arcs)
      both = subst (Reads base) D.is e

      run_rises : (i : ℕ) → i + 1 < n → NoFall (float_at out (base + i) 4) (float_at out (base + i + 1) 4)
      run_rises i h =
          let c = D.count in
          let r = reads_front base D.strip D.arcs both in
          let k : base + i + 1 ≡ base + suc i = omega arith in
          rw (k, (r i (omega arith)).advancement, (r (suc i) (omega arith)).advancement) (rising_at 0 D.strip i D.rising (omega arith))

      arcs_long : (i : ℕ) → n ≤ i → i < length vs → let j = base + i in AboutCentre o.half_width (float_at out j 0) (float_at out j 1) (float_at out j 2) (float_at out j 3)
      arcs_long i l h =
          let c = D.count in
          let a = D.is in
          let k : length vs ≡ length D.strip + length D.arcs = ap length a ∙ length-append D.strip D.arcs in
          let v = all_at (OnArc o S) D.arcs blank (i - length D.strip) D.on (omega arith) in
          let s = rw (back_at D.strip D.arcs blank i (omega arith)) at (both i (omega (arith, length-append D.strip D.arcs))) in
          rw (s.x, s.y, s.normal_x, s.normal_y) (arc_long o S v)

    pub none_falls : (base : ℕ) (rs : List (Run Endpoint)) → Goods rs → Reads base (mesh_vertices o rs) → NoneFalls out o base rs
    unfolding mesh_vertices
    none_falls base [] g e = tt
    none_falls base (r ∷ rs) g e =
        let vs = shape_vertices o (drawn_of o r) in
        let ws = mesh_vertices o rs in (
          run_rises base (base_count (drawn_of o r)) vs g.0 (reads_front base vs ws e),
          none_falls (base + shape_count (drawn_of o r)) rs g.1 (subst (λ (n : ℕ). Reads (base + n) ws) (length_shape o (drawn_of o r)) (reads_back base vs ws e)),
        )

    pub all_long : (base : ℕ) (rs : List (Run Endpoint)) → Goods rs → Reads base (mesh_vertices o rs) → AllLong out o base rs
    unfolding mesh_vertices
    all_long base [] g e = tt
    all_long base (r ∷ rs) g e =
        let vs = shape_vertices o (drawn_of o r) in
        let ws = mesh_vertices o rs in
        let l = length_shape o (drawn_of o r) in (
          λ i h k. arcs_long base (base_count (drawn_of o r)) vs g.0 (reads_front base vs ws e) i h (omega arith),
          all_long (base + shape_count (drawn_of o r)) rs g.1 (subst (λ (n : ℕ). Reads (base + n) ws) l (reads_back base vs ws e)),
        )
