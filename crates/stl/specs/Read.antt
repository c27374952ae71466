-- Reading: the answer, and the lent list of corners whole, of any bytes and any list. Assumes nothing.
use Rattle.std.specs.Prelude.{ℕ, ◌+◌, ◌*◌, Bool, not, cond, ◌&&◌, ◌||◌, List, ltb, eqb, Float, length}
use Rattle.refusals.specs.Numbers.{number_of, file_length, bad_corner, list_room}
use Rattle.lists.specs.Over.{over, flat}
use Rattle.stl.specs.Answer.{with_count, with_place}
use Rattle.stl.specs.Corner.{finite_corner, is_zero}
use Rattle.stl.specs.Each.{first_bad}
use Rattle.stl.specs.File.{size_of, count_in, corner_at, z_at, facets_in, corners_of}
use Rattle.stl.specs.declared.answer.StlAnswer.{StlAnswer}

module _ (b : List ℕ) where
  -- not "a corner that is not finite, a z that isn't zero"
  unfoldable pub fine_corner : ℕ → Bool
  fine_corner i = finite_corner (corner_at b i) && is_zero (z_at b i)

  unfoldable pub fine_facet : ℕ → Bool
  fine_facet k = (fine_corner (size_of k + 12) && fine_corner (size_of k + 24)) && fine_corner (size_of k + 36)

  -- the first triangle that is not fine, or how many there are
  abbrev pub first_damaged : ℕ
  first_damaged = first_bad fine_facet 0 (count_in b)

  -- "length below 84 or not 84 plus 50 times the count"
  abbrev pub wrong_length : Bool
  wrong_length = ltb (length b) 84 || not (eqb (length b) (size_of (count_in b)))

pub record ReadOutcome : Type 0 where
  pub answer : StlAnswer
  pub corners : List Float

-- "each changes nothing"
abbrev pub unread : List Float → ℕ → ℕ → ReadOutcome
unread c number place = record { answer = with_place number place; corners = c }

-- 15, then 16, then 17; six floats to a triangle
unfoldable pub read_of : List ℕ → List Float → ReadOutcome
read_of b c =
    let n = count_in b in
    cond (wrong_length b) (unread c (number_of file_length) 0)
    (cond (ltb (first_damaged b) n) (unread c (number_of bad_corner) (first_damaged b))
    (cond (ltb (length c) (6 * n)) (unread c (number_of list_room) 0)
    (record { answer = with_count (6 * n); corners = over (flat corners_of (facets_in b)) c })))
