-- What is printed, by an answer's number: the refusal where it is not 0, else what the next call makes of it. Assumes nothing.
use Prim.Native.Nat.{ℕ, ◌*◌, ◌/◌, ◌≤◌, ◌<◌}
use mathlib.Core.Path.{◌≡◌}
use mathlib.Core.Bool.{true, false}
use mathlib.Core.List.{List, []}
use native.Mathlib.Nat.{lt_of_lt_of_le}
use native.Mathlib.Omega.{arith}
use lib.Dec.{eqb, lit≤}
use lib.Ieee.{Float, binary32, of_bits}
use lib.ListN.{length, take, length-replicate}
use Rattle.refusals.specs.Numbers.{number_of, long_text}
use Rattle.lines.specs.Placed.{Puts}
use Rattle.reader.specs.Outcome as reader
use Rattle.reader.specs.Reads.{Reads}
use Rattle.reader.specs.declared.answer.ReadAnswer.{ReadAnswer}
use Rattle.pieces.specs.Piece.{lent}
use Rattle.mesh.specs.Mesh as mesh
use Rattle.mesh.specs.declared.answer.MeshAnswer.{MeshAnswer}
use Rattle.page.specs.Page.{options_of, text_room, verb_room, coord_room, vertex_room, source_room, triangle_room, AreShort, mesh_page, refused_page, mesh_page_of, read_page_of, too_long, read_text, PutsPage}
use Rattle.mesh.proofs.Rooms.{smaller_both}
use Rattle.page.proofs.Rooms.{mesh_roomy, read_roomy}
use Rattle.page.proofs.Named.{below_zeros, below_at, mesh_named}

-- ---- what is counted fits into the program's rooms
pub mesh_within : (vs : List ℕ) (cs : List Float) {o : mesh.Outcome} → o ≡ mesh.outcome_of vs cs options_of [] (lent vertex_room source_room triangle_room)
    → {a : MeshAnswer} → a ≡ o.answer → a.number ≡ 0 → (a.vertices ≤ 1024) × (a.triangles ≤ 1536)
mesh_within vs cs {o} h {a} e n =
    let r = (rw (← h, ← e) at (mesh_roomy (lent vertex_room source_room triangle_room) vs cs options_of [])) n in
    (omega (arith, r.0, (smaller_both (length vertex_room / 5) (length source_room)).0, length-replicate (5 * 1024) (of_bits binary32 0)), omega (arith, r.1, length-replicate {A = ℕ} (3 * 1536) 0))

pub read_within : {s : List ℕ} {o : reader.Outcome} → Reads s verb_room coord_room o → {a : ReadAnswer} → a ≡ o.answer → a.number ≡ 0
    → (a.verbs ≤ 1024) × (a.coords ≤ 2048)
read_within {s} {o} h {a} e n =
    let r = (rw (← e) at (read_roomy s verb_room coord_room o h)) n in
    (omega (arith, r.0, length-replicate {A = ℕ} 1024 0), omega (arith, r.1, length-replicate 2048 (of_bits binary32 0)))

pub mesh_short : (vs : List ℕ) (cs : List Float) {o : mesh.Outcome} → o ≡ mesh.outcome_of vs cs options_of [] (lent vertex_room source_room triangle_room)
    → {a : MeshAnswer} → a ≡ o.answer → a.vertices ≤ 1024 → AreShort o.lists.triangles
mesh_short vs cs {o} h {a} e n i =
    let few : o.answer.vertices ≤ 1024 = rw (← e) n in
    let named = rw (← h) at (mesh_named 1024 (lent vertex_room source_room triangle_room) (below_zeros 1023 (3 * 1536)) vs cs options_of []) in
    lt_of_lt_of_le (below_at 1023 o.lists.triangles (named few) i) (lit≤ tt)

-- what is put, and where
module _ {xs ys : List ℕ} {k i : ℕ} where
  -- ---- a path
  module _ {o p : mesh.Outcome} (h : o ≡ p) {a : MeshAnswer} (e : a ≡ o.answer) where
    pub mesh_refused : eqb a.number 0 ≡ false → Puts (refused_page a.number a.place) k xs i ys → Puts (mesh_page_of p) k xs i ys
    unfolding mesh_page_of
    mesh_refused n q = rw (← h, ← e, n) q

    pub mesh_drawn : eqb a.number 0 ≡ true → Puts (mesh_page a.vertices a.triangles o.lists.vertices o.lists.triangles) k xs i ys → Puts (mesh_page_of p) k xs i ys
    unfolding mesh_page_of
    mesh_drawn n q = rw (← h, ← e, n) q

-- ---- a text
pub long_refused : {s xs ys : List ℕ} {i : ℕ} → text_room < length s → Puts (refused_page (number_of long_text) 0) 0 xs i ys → PutsPage s xs i ys
long_refused h p = record { page = refused_page (number_of long_text) 0; prints = too_long h; long = omega (arith, p.behind); list = p.list }

module _ {s xs ys : List ℕ} {i : ℕ} {o : reader.Outcome} (few : length s ≤ text_room) (reads : Reads s verb_room coord_room o) where
  page_of : Puts (read_page_of o) 0 xs i ys → PutsPage s xs i ys
  page_of p = record { page = read_page_of o; prints = read_text o few reads; long = omega (arith, p.behind); list = p.list }

  module _ {a : ReadAnswer} (e : a ≡ o.answer) where
    pub read_refused : eqb a.number 0 ≡ false → Puts (refused_page a.number a.place) 0 xs i ys → PutsPage s xs i ys
    unfolding read_page_of
    read_refused n p = page_of (rw (← e, n) p)

    pub read_stroked : eqb a.number 0 ≡ true
        → Puts (mesh_page_of (mesh.outcome_of (take a.verbs o.verbs) (take a.coords o.coords) options_of [] (lent vertex_room source_room triangle_room))) 0 xs i ys → PutsPage s xs i ys
    unfolding read_page_of
    read_stroked n p = page_of (rw (← e, n) p)
