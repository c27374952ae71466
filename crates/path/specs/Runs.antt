-- The runs of a path, for the layers above: what verbs make of points. That an accepted path is its runs is proofs/Runs.antt. Assumes nothing.
use Rattle.std.specs.Prelude.{ℕ, suc, ◌+◌, ◌-◌, Bool, List, [], ◌∷◌, ◌++◌, eqb, length, take, drop, replicate}
use Rattle.plane.specs.Normal.{pick}
use Rattle.path.specs.Verbs.{begin, line, end_open, end_closed, names}

abbrev pub end_of : Bool → ℕ
end_of closed = pick closed end_closed end_open

-- Verbs that follow where n points of a run are named. A run is a begin, lines and an end, and the list ends outside of one.
pub data Formed : ℕ → List ℕ → Type 0 where
  done : Formed 0 []
  begins : {vs : List ℕ} → Formed 1 vs → Formed 0 (begin ∷ vs)
  goes : {k : ℕ} {vs : List ℕ} → Formed (suc (suc k)) vs → Formed (suc k) (line ∷ vs)
  ends : {k : ℕ} {vs : List ℕ} (closed : Bool) → Formed 0 vs → Formed (suc k) (end_of closed ∷ vs)

-- a run of points of any kind
pub record Run (A : Type 0) : Type 0 where
  pub closed : Bool
  pub points : List A

module _ {A : Type 0} where
  -- the runs of verbs and points, where n points of the first run are named already: an end verb ends it. Total, so that no pass has to carry
  -- that the verbs are well placed.
  unfoldable pub runs_from : ℕ → List ℕ → List A → List (Run A)
  runs_from n [] ps = []
  runs_from n (v ∷ vs) ps = pick (names v) (runs_from (n + 1) vs ps) (record { closed = eqb v end_closed; points = take n ps } ∷ runs_from 0 vs (drop n ps))

  -- the verbs of runs, each a begin, a line to every further point, and an end
  unfoldable pub verbs_of : List (Run A) → List ℕ
  verbs_of [] = []
  verbs_of (r ∷ rs) = begin ∷ (replicate (length r.points - 1) line ++ (end_of r.closed ∷ verbs_of rs))

  -- the points of runs
  unfoldable pub points_of : List (Run A) → List A
  points_of [] = []
  points_of (r ∷ rs) = r.points ++ points_of rs
