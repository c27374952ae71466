-- W-205: "Handhelds hold stored u16 lists; supply widening, and narrowing where no number exceeds 65,535". A list's numbers are the same in either width.
-- Assumes nothing.
use Rattle.std.specs.Prelude.{ℕ, suc, cond, List, [], ◌∷◌, ltb, length}
use Rattle.refusals.specs.Numbers.{number_of, list_room, wide_number}
use Rattle.lists.specs.Over.{over}
use Rattle.widths.specs.Answer.{with_count, with_place}
use Rattle.widths.specs.declared.answer.ListedAnswer.{ListedAnswer}

-- "where no number exceeds 65,535"
abbrev pub narrow_most : ℕ
narrow_most = 65535

-- of "a number too large to narrow" "the first one's index", or how many there are where there is none
unfoldable pub first_wide : List ℕ → ℕ
first_wide [] = 0
first_wide (x ∷ xs) = cond (ltb narrow_most x) 0 (suc (first_wide xs))

-- the answer, and the lent list after the call
pub record Outcome : Type 0 where
  pub answer : ListedAnswer
  pub list : List ℕ

-- "Both change nothing."
abbrev pub refused : List ℕ → ℕ → ℕ → Outcome
refused ys number place = record { answer = with_place number place; list = ys }

-- the numbers xs over the start of ys
abbrev pub copied : List ℕ → List ℕ → Outcome
copied xs ys = record { answer = with_count (length xs); list = over xs ys }

-- "17 also when a list to widen .. into is too short"
unfoldable pub widen_of : List ℕ → List ℕ → Outcome
widen_of xs ys = cond (ltb (length ys) (length xs)) (refused ys (number_of list_room) 0) (copied xs ys)

-- "17 also when a list to .. narrow into is too short; then 18, a number too large to narrow (place: the first one's index)"
unfoldable pub narrow_of : List ℕ → List ℕ → Outcome
narrow_of xs ys =
    cond (ltb (length ys) (length xs)) (refused ys (number_of list_room) 0)
    (cond (ltb (first_wide xs) (length xs)) (refused ys (number_of wide_number) (first_wide xs)) (copied xs ys))
