-- The verbs, and where each may stand: "0 begin, 1 line, 2 end open, 3 end closed". Assumes nothing.
use Rattle.std.specs.Prelude.{ℕ, suc, ◌+◌, ◌≡◌, Bool, true, false, ◌||◌, List, [], ◌∷◌, eqb, length}
use Rattle.plane.specs.Normal.{pick}
use Rattle.path.specs.declared.verbs.Scan.{Scan}

abbrev pub begin : ℕ
begin = 0

abbrev pub line : ℕ
line = 1

abbrev pub end_open : ℕ
end_open = 2

abbrev pub end_closed : ℕ
end_closed = 3

-- "two to each begin or line": the verbs that name a point, after which the path is inside a run
unfoldable pub names : ℕ → Bool
names v = eqb v begin || eqb v line

-- not an "unknown verb, begin inside a run, line or end outside"
unfoldable pub placed : Bool → ℕ → Bool
placed false v = eqb v begin
placed true v = eqb v line || eqb v end_open || eqb v end_closed

-- "the first unknown or misplaced verb, else the number of verbs", where the list begins inside a run or outside
unfoldable pub first_misplaced : Bool → List ℕ → ℕ
first_misplaced inside [] = 0
first_misplaced inside (v ∷ vs) = pick (placed inside v) (suc (first_misplaced (names v) vs)) 0

-- "list ends inside"
unfoldable pub ends_inside : Bool → List ℕ → Bool
ends_inside inside [] = inside
ends_inside inside (v ∷ vs) = ends_inside (names v) vs

-- how many points a verb names, and how many a list of them does
unfoldable pub named : ℕ → ℕ
named v = pick (names v) 1 0

unfoldable pub point_count : List ℕ → ℕ
point_count [] = 0
point_count (v ∷ vs) = named v + point_count vs

-- what one pass over the verbs finds: it stops at the first that is misplaced
pub record Scanned (vs : List ℕ) (s : Scan) : Type 0 where
  pub place : s.place ≡ first_misplaced false vs
  pub inside : s.place ≡ length vs → s.inside ≡ ends_inside false vs
  pub points : s.place ≡ length vs → s.points ≡ point_count vs
