-- What `check_path` answers: refusals 2, 3 and 4, in document 01's words, and what is accepted. Assumes nothing.
use Rattle.std.specs.Prelude.{ℕ, ◌*◌, ◌≤◌, ◌≡◌, Bool, false, not, ◌||◌, List, Result, Ok, Err, ltb, eqb, length, Float}
use Rattle.refusals.specs.Numbers.{verdict, verdict_of, accepted, too_many_verbs, misplaced_verb, bad_coordinate}
use Rattle.refusals.specs.declared.Refusal.{Refusal}
use Rattle.refusals.specs.declared.Verdict.{Verdict}
use Rattle.plane.specs.Normal.{pick}
use Rattle.path.specs.Limits.{verb_limit}
use Rattle.path.specs.Verbs.{first_misplaced, ends_inside, point_count}
use Rattle.path.specs.Coordinates.{first_outside}

-- "unknown verb, begin inside a run, line or end outside, list ends inside; or coordinates not exactly two per begin or line"
unfoldable pub malformed : List ℕ → List Float → Bool
malformed vs cs = ltb (first_misplaced false vs) (length vs) || ends_inside false vs || not (eqb (length cs) (2 * point_count vs))

-- "Order is by number within a call: all of 3 before any 4."
unfoldable pub checked_of : List ℕ → List Float → Verdict
checked_of vs cs =
    pick (ltb verb_limit (length vs)) (verdict too_many_verbs 0)
    (pick (malformed vs cs) (verdict misplaced_verb (first_misplaced false vs))
    (pick (ltb (first_outside cs) (length cs)) (verdict bad_coordinate (first_outside cs)) (verdict accepted 0)))

-- what each case of `check_path`'s answer stands for
abbrev pub check_answer_of : Result Unit Refusal → Verdict
check_answer_of (Ok _) = verdict accepted 0
check_answer_of (Err r) = verdict_of r

-- what an accepted path is, for the layers above: the number is 0 exactly then (proofs/Laws.antt)
pub record Sound (vs : List ℕ) (cs : List Float) : Type 0 where
  pub few : length vs ≤ verb_limit
  pub placed : first_misplaced false vs ≡ length vs
  pub ended : ends_inside false vs ≡ false
  pub paired : length cs ≡ 2 * point_count vs
  pub within : first_outside cs ≡ length cs
