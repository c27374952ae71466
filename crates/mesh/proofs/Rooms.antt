-- A path that is accepted is small enough to be counted and drawn, and where its answer is a mesh the lists have room for it. Assumes nothing.
use Prim.Native.Nat.{ℕ, min, ◌+◌, ◌-◌, ◌*◌, ◌/◌, ◌^◌, ◌≤◌}
use mathlib.Core.Path.{◌≡◌, refl, sym, ap, ◌∙◌}
use mathlib.Core.Bool.{Bool, true, false, cond, false≢true}
use mathlib.Core.List.{List, [], ◌∷◌, ◌++◌}
use native.Mathlib.Nat.{le_trans, le_of_eq, mul-le-mul, mul-le-mul_left, mul-le-mul_right, pow-le-pow_right, div-mul-le_self}
use native.Mathlib.Omega.{arith}
use lib.Dec.{ltb, eqb, lit≤}
use lib.Ieee.{Float}
use lib.ListN.{length, take, drop, length-append, length-take, length-drop}
use borrow.Author.Tests.{le-ltb, ltb-true, ltb-false}
use Rattle.std.specs.Prelude.{Ok, Err}
use Rattle.refusals.specs.Numbers.{number_of, verdict_of, accepted, vertex_room, triangle_room}
use Rattle.refusals.specs.declared.Refusal.{Refusal}
use Rattle.refusals.specs.declared.Refusal.TheVariants.{OutOfRange, TooManyVerbs, Verb, Coordinate, TooManyCuts}
use Rattle.plane.specs.Normal.{pick}
use Rattle.endpoint.specs.declared.Endpoint.{Endpoint}
use Rattle.lists.specs.Over.{over}
use Rattle.pieces.specs.Piece.{flat_v, flat_s, flat_t, behind, Lists, lent, Fits, Passes}
use Rattle.pieces.specs.declared.Place.{Place}
use Rattle.pieces.proofs.Pieces.{laid_start}
use Rattle.path.specs.Limits.{verb_limit, most_to_point, level_limit, drawn_limit, count_limit}
use Rattle.path.specs.Path.{Sound}
use Rattle.path.specs.Runs.{Run, runs_from, points_of}
use Rattle.path.specs.Verbs.{end_closed, names}
use Rattle.options.specs.Options.{level_of}
use Rattle.options.specs.declared.Stroke.{Stroke}
use Rattle.options.proofs.Levels.{level_few}
use Rattle.path.proofs.Laws.{count_le}
use Rattle.kept.specs.Points.{endpoints_of}
use Rattle.kept.proofs.Indexed.{points_length}
use Rattle.runs.specs.Cursor.{undrawn}
use Rattle.runs.specs.Passes.{Paired}
use Rattle.cuts.proofs.Runs.{uncut, cut_points}
use Rattle.runs.specs.Runs.{runs_of, CutsFew, path_runs, mesh_vertices, mesh_count, mesh_triangles, mesh_piece}
use Rattle.runs.proofs.Runs.{length_vertices, runs_bounded}
use Rattle.mesh.specs.Answer.{with_counts, mesh_answer_of, is_mesh, smaller_of, roomed_of, Plenty}
use Rattle.mesh.specs.Mesh.{Outcome, refused, vertex_places, room_for, accepted_of, once_accepted}
use Rattle.mesh.specs.Parts.{Counted}
use Rattle.mesh.specs.declared.answer.MeshAnswer.{MeshAnswer}
use Rattle.mesh.specs.declared.answer.MeshError.{MeshError}
use Rattle.mesh.specs.declared.answer.MeshError.TheVariants.{Refused, VertexRoom, TriangleRoom}

pub sound_paired : (vs : List ℕ) (cs : List Float) → Sound vs cs → Paired vs cs
sound_paired vs cs s = record { points = s.paired; few = omega (arith, s.paired, s.few, count_le vs) }

-- runs have no more points than the path
runs_points : (n : ℕ) (vs : List ℕ) (ps : List Endpoint) → length (points_of (runs_from n vs ps)) ≤ length ps
unfolding runs_from points_of
runs_points n [] ps = omega arith
runs_points n (v ∷ vs) ps = go (names v) (runs_points (n + 1) vs ps) (runs_points 0 vs (drop n ps))
  where
    go : (t : Bool) → length (points_of (runs_from (n + 1) vs ps)) ≤ length ps → length (points_of (runs_from 0 vs (drop n ps))) ≤ length (drop n ps)
        → length (points_of (pick t (runs_from (n + 1) vs ps) (record { closed = eqb v end_closed; points = take n ps } ∷ runs_from 0 vs (drop n ps)))) ≤ length ps
    go true a b = a
    go false a b =
        let d : length (points_of (runs_from 0 vs (drop n ps))) ≤ length ps - n = simp length-drop at b in
        simp (length-append, length-take) (omega arith)

-- nor more runs than verbs
runs_few : (n : ℕ) (vs : List ℕ) (ps : List Endpoint) → length (runs_from n vs ps) ≤ length vs
unfolding runs_from
runs_few n [] ps = omega arith
runs_few n (v ∷ vs) ps = go (names v) (runs_few (n + 1) vs ps) (runs_few 0 vs (drop n ps))
  where
    go : (t : Bool) → length (runs_from (n + 1) vs ps) ≤ length vs → length (runs_from 0 vs (drop n ps)) ≤ length vs
        → length (pick t (runs_from (n + 1) vs ps) (record { closed = eqb v end_closed; points = take n ps } ∷ runs_from 0 vs (drop n ps))) ≤ length (v ∷ vs)
    go true a b = omega (arith, a)
    go false a b = omega (arith, b)

-- the smaller room is no larger than either, and what fits both fits it
pub smaller_both : (a b : ℕ) → (smaller_of a b ≤ a) × (smaller_of a b ≤ b)
smaller_both a b = go (ltb b a) refl
  where
    go : (t : Bool) → ltb b a ≡ t → (cond t b a ≤ a) × (cond t b a ≤ b)
    go true e = (omega (arith, ltb-true b a e), omega arith)
    go false e = (omega arith, ltb-false b a e)

pub smaller_min : (a b : ℕ) → min a b ≡ smaller_of a b
smaller_min a b = go (ltb b a) refl
  where
    go : (t : Bool) → ltb b a ≡ t → min a b ≡ cond t b a
    go true e = omega (arith, ltb-true b a e)
    go false e = omega (arith, ltb-false b a e)

pub smaller_least : (n a b : ℕ) → n ≤ a → n ≤ b → n ≤ smaller_of a b
smaller_least n a b h g = go (ltb b a)
  where
    go : (t : Bool) → n ≤ cond t b a
    go true = g
    go false = h

-- six levels at the most
power_few : (level : ℕ) → level ≤ level_limit → 2 ^ level ≤ 64
power_few level h = pow-le-pow_right (lit≤ tt) h

-- room for so many times two powers, by what is left of it when it is shifted
pub shifted_room : (m n room : ℕ) → n ≤ room / m / 2 → 2 * m * n ≤ room
shifted_room m n room h =
    let twice : 2 * n ≤ room / m = omega arith in
    le_trans (le_of_eq (regroup m n)) (le_trans (mul-le-mul_right m twice) (div-mul-le_self room m))
  where
    regroup : (m n : ℕ) → 2 * m * n ≡ 2 * n * m
    regroup m n = omega arith

-- two coordinates to a point
twice_half : (m n : ℕ) → 4 * m * (n / 2) ≤ 2 * m * n
twice_half m n = le_trans (le_of_eq (regroup m (n / 2))) (mul-le-mul_left (2 * m) (omega arith))
  where
    regroup : (m k : ℕ) → 4 * m * k ≡ 2 * m * (2 * k)
    regroup m k = omega arith

-- the runs that are drawn: no more points than the path has, a point more to each run, and the cuts
module _ (o : Stroke) (ds : List Float) (vs : List ℕ) (cs : List Float) (s : Sound vs cs) where
  points_few : length (points_of (runs_of vs cs)) ≤ length cs / 2
  points_few = omega (arith, runs_points 0 vs (endpoints_of 0 cs), points_length cs 0)

  -- "An empty list means no dashes."
  whole : length ds ≡ 0 → path_runs o ds vs cs ≡ runs_of vs cs
  whole = go ds
    where
      go : (ds : List Float) → length ds ≡ 0 → path_runs o ds vs cs ≡ runs_of vs cs
      go [] e = uncut o.near o.offset (runs_of vs cs)
      go (d ∷ ds) e = absurd (omega (arith, e))

  drawn_few : CutsFew o ds (runs_of vs cs) → length (points_of (path_runs o ds vs cs)) ≤ drawn_limit
  drawn_few = go ds
    where
      own : length (points_of (runs_of vs cs)) ≤ verb_limit
      own = omega (arith, points_few, s.paired, s.few, count_le vs)

      go : (ds : List Float) → CutsFew o ds (runs_of vs cs) → length (points_of (path_runs o ds vs cs)) ≤ drawn_limit
      go [] f = rw (uncut o.near o.offset (runs_of vs cs)) (omega (arith, own))
      go (d ∷ ds) f = omega (arith, own, cut_points o.near (d ∷ ds) o.offset (runs_of vs cs), runs_few 0 vs (endpoints_of 0 cs), s.few, f (omega arith))

-- "the counts' bounds"
module _ (o : Stroke) (ds : List Float) (vs : List ℕ) (cs : List Float) (s : Sound vs cs) (f : CutsFew o ds (runs_of vs cs)) where
  abbrev rs : List (Run Endpoint)
  rs = path_runs o ds vs cs

  -- "once over the verb limit": a u32 holds the number of every vertex
  pub counts_limited : (mesh_count o rs ≤ count_limit) × (length (mesh_triangles o 0 rs) ≤ count_limit)
  counts_limited =
      let b = runs_bounded o rs in
      let l = le_trans b.vertices (mul-le-mul (mul-le-mul_left 4 (power_few (level_of o) (level_few o))) (drawn_few o ds vs cs s f)) in
      (l, le_trans b.triangles l)

  pub counts_fit : (l : Lists) → Fits false undrawn (mesh_piece o undrawn rs) l
  counts_fit l =
      let b = counts_limited in
      let n = length_vertices o rs in
      record { numbers = omega (arith, b.0); faces = omega (arith, b.1); vertices = λ w. absurd (false≢true w); sources = λ w. absurd (false≢true w); triangles = λ w. absurd (false≢true w) }

  room_fits : (l : Lists) → mesh_count o rs ≤ vertex_places l → length (mesh_triangles o 0 rs) ≤ length l.triangles / 3 → Fits true undrawn (mesh_piece o undrawn rs) l
  room_fits l a b =
      let h = counts_fit l in
      let n = length_vertices o rs in
      let p = smaller_both (length l.vertices / 5) (length l.sources) in
      record { numbers = h.numbers; faces = h.faces; vertices = λ w. omega (arith, p.0); sources = λ w. omega (arith, p.1); triangles = λ w. omega arith }

  -- where there are no dashes, by the coordinates
  few_vertices : length ds ≡ 0 → mesh_count o rs ≤ 2 * 2 ^ level_of o * length cs
  few_vertices e =
      let b = (runs_bounded o (runs_of vs cs)).vertices in
      rw (whole o ds vs cs s e) (le_trans b (le_trans (mul-le-mul_left (most_to_point (level_of o)) (points_few o ds vs cs s)) (twice_half (2 ^ level_of o) (length cs))))

  few_triangles : length ds ≡ 0 → length (mesh_triangles o 0 rs) ≤ 2 * 2 ^ level_of o * length cs
  few_triangles e = le_trans (runs_bounded o rs).triangles (few_vertices e)

-- what stands behind the last run, and the lists then
module _ (o : Stroke) (rs : List (Run Endpoint)) where
  pub counts_are : (k : Place) → k ≡ behind undrawn (mesh_piece o undrawn rs) → (k.vertices ≡ mesh_count o rs) × (k.triangles ≡ length (mesh_triangles o 0 rs))
  counts_are k e = rw e (omega (arith, length_vertices o rs), omega arith)

  drawn_is : {l l' : Lists} {k : Place} → Passes true undrawn (mesh_piece o undrawn rs) l l' k → l'
      ≡ lent (over (flat_v (mesh_vertices o rs)) l.vertices) (over (flat_s (mesh_vertices o rs)) l.sources) (over (flat_t (mesh_triangles o 0 rs)) l.triangles)
  drawn_is {l} e = e.lists refl ∙ laid_start undrawn.base (mesh_piece o undrawn rs) l

-- what is refused is no mesh
pub no_mesh : (e : MeshError) → is_mesh (mesh_answer_of (Err e)) ≡ false
no_mesh (Refused OutOfRange) = refl
no_mesh (Refused TooManyVerbs) = refl
no_mesh (Refused (Verb i)) = refl
no_mesh (Refused (Coordinate i)) = refl
no_mesh (Refused TooManyCuts) = refl
no_mesh (VertexRoom size) = refl
no_mesh (TriangleRoom size) = refl

-- it is a mesh only where there is room for both
roomed_room : (n m nv nt : ℕ) → is_mesh (roomed_of n m nv nt) ≡ true → (n ≤ nv) × (m ≤ nt)
roomed_room n m nv nt e = go (ltb nv n) refl (ltb nt m) refl e
  where
    go : (b : Bool) → ltb nv n ≡ b → (d : Bool) → ltb nt m ≡ d → is_mesh (cond b (with_counts (number_of vertex_room) n m) (cond d (with_counts (number_of triangle_room) n m) (with_counts (number_of accepted) n m))) ≡ true
        → (n ≤ nv) × (m ≤ nt)
    go true p d q f = absurd (false≢true f)
    go false p true q f = absurd (false≢true f)
    go false p false q f = (ltb-false nv n p, ltb-false nt m q)

module _ (o : Stroke) (ds : List Float) (vs : List ℕ) (cs : List Float) (s : Sound vs cs) (f : CutsFew o ds (runs_of vs cs)) (l : Lists) where
  abbrev outcome : Outcome
  outcome = accepted_of l o (path_runs o ds vs cs)

  -- ---- with plenty of room, and no dashes
  module _ (none : length ds ≡ 0) (q : Plenty (level_of o) (record { vertices = vertex_places l; triangles = length l.triangles / 3 }) (length cs)) where
    v_room : mesh_count o (path_runs o ds vs cs) ≤ vertex_places l
    v_room = le_trans (few_vertices o ds vs cs s f none) q.vertices

    t_room : length (mesh_triangles o 0 (path_runs o ds vs cs)) ≤ length l.triangles / 3
    t_room = le_trans (few_triangles o ds vs cs s f none) q.triangles

    pub plenty_fits : Fits true undrawn (mesh_piece o undrawn (path_runs o ds vs cs)) l
    plenty_fits = room_fits o ds vs cs s f l v_room t_room

    pub plenty_drawn : {l' : Lists} {k : Place} → Passes true undrawn (mesh_piece o undrawn (path_runs o ds vs cs)) l l' k
        → record { answer = mesh_answer_of (Ok (record { vertices = k.vertices; triangles = k.triangles })); lists = l' } ≡ outcome
    unfolding accepted_of
    plenty_drawn {l'} {k} e =
        let c = counts_are o (path_runs o ds vs cs) k e.place in
        rw (c.0, c.1, le-ltb _ _ v_room, le-ltb _ _ t_room, drawn_is o (path_runs o ds vs cs) e)

  -- ---- counted first: c is what it needs, and a the answer
  module _ {c : Place} {l1 : Lists} (k : Counted o (path_runs o ds vs cs) l l1 c) (a : MeshAnswer) (j : a ≡ roomed_of c.vertices c.triangles (vertex_places l) (length l.triangles / 3)) where
    count : (c.vertices ≡ mesh_count o (path_runs o ds vs cs)) × (c.triangles ≡ length (mesh_triangles o 0 (path_runs o ds vs cs)))
    count = counts_are o (path_runs o ds vs cs) c k.place

    answer_is : a ≡ room_for l o (path_runs o ds vs cs)
    answer_is = j ∙ rw (count.0, count.1)

    pub mesh_fits : is_mesh a ≡ true → Fits true undrawn (mesh_piece o undrawn (path_runs o ds vs cs)) l1
    mesh_fits e =
        let r = roomed_room c.vertices c.triangles (vertex_places l) (length l.triangles / 3) (ap is_mesh (sym j) ∙ e) in
        rw k.lists (room_fits o ds vs cs s f l (omega (arith, r.0, count.0)) (omega (arith, r.1, count.1)))

    pub is_drawn : is_mesh a ≡ true → {l2 : Lists} {d : Place} → Passes true undrawn (mesh_piece o undrawn (path_runs o ds vs cs)) l1 l2 d → record { answer = a; lists = l2 } ≡ outcome
    unfolding accepted_of
    is_drawn e q = rw (answer_is, ap is_mesh (sym answer_is) ∙ e, drawn_is o (path_runs o ds vs cs) q, k.lists)

    pub is_refused : is_mesh a ≡ false → record { answer = a; lists = l1 } ≡ outcome
    unfolding accepted_of
    is_refused e = rw (answer_is, ap is_mesh (sym answer_is) ∙ e, k.lists)

-- ---- parts of no places, put back
none_back : {A : Type 0} (xs ys : List A) → length ys ≡ 0 → ys ++ xs ≡ xs
none_back xs [] e = refl
none_back xs (y ∷ ys) e = absurd (omega (arith, e))

pub counted : (o : Stroke) (rs : List (Run Endpoint)) (v v2 : List Float) (s s2 t t2 : List ℕ) {l1 : Lists} {k : Place} → length v2 ≡ 0 → length s2 ≡ 0 → length t2 ≡ 0
    → Passes false undrawn (mesh_piece o undrawn rs) l1 (lent v2 s2 t2) k → Counted o rs (lent v s t) (lent (v2 ++ v) (s2 ++ s) (t2 ++ t)) k
counted o rs v v2 s s2 t t2 lv ls lt e = record { place = e.place; lists = rw (none_back v v2 lv, none_back s s2 ls, none_back t t2 lt) }

-- ---- refusals 1 to 4 and 26, whatever would come then
pub refused_first : (l : Lists) (r : Refusal) (next : Outcome) → refused l (mesh_answer_of (Err (Refused r))) ≡ once_accepted l (verdict_of r).number (verdict_of r).place next
refused_first l OutOfRange next = refl
refused_first l TooManyVerbs next = refl
refused_first l (Verb i) next = refl
refused_first l (Coordinate i) next = refl
refused_first l TooManyCuts next = refl
