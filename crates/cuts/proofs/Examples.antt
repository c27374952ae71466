-- How many cuts small paths have, and which cut runs, computed. Floats stand here by their bits. Assumes nothing.
use Prim.Native.Nat.{ℕ}
use mathlib.Core.Path.{◌≡◌, refl}
use mathlib.Core.Bool.{cond}
use mathlib.Core.List.{List, [], ◌∷◌}
use lib.Count.{count_leading_zeros, count_trailing_zeros}
use lib.Ieee.{Float, binary32, of_bits, to_bits, add, sub, mul, div, neg, sum, lt, eq, le, round, size, units, odd, span, climb}
use Rattle.root.specs.Compute.{floor_root, parts_root, bits_root, root_of}
use Rattle.plane.specs.F32.{f32}
use Rattle.plane.specs.Vector.{plus_of, minus_of, times_of, square_length_of, length_of}
use Rattle.endpoint.specs.declared.Endpoint.{Endpoint}
use Rattle.path.specs.Runs.{Run, runs_from}
use Rattle.path.specs.Verbs.{begin, line, end_open, end_closed, names}
use Rattle.kept.specs.Kept.{near_of, kept_behind, all_near, trimmed, kept_points}
use Rattle.kept.specs.Points.{endpoints_of}
use Rattle.dashes.specs.Pattern.{even_of, length_at, is_dash, worn_from, first_cut, next_cut}
use Rattle.dashes.specs.Marks.{falls_on, cut_of, passed_of, spot_of, cuts_on, behind, cut_marks, marks_from, marks_of}
use Rattle.dashes.specs.Dashes.{dashes_from, dashes_of}
use Rattle.cuts.specs.Cuts.{cut_count, runs_cuts, path_cuts}
use Rattle.cuts.specs.Runs.{lines_of, cut_run, cut_runs}

abbrev quarter : ℕ
quarter = 0x3e800000

abbrev three : ℕ
three = 0x40400000

abbrev four : ℕ
four = 0x40800000

abbrev five : ℕ
five = 0x40a00000

abbrev six : ℕ
six = 0x40c00000

abbrev eight : ℕ
eight = 0x41000000

abbrev sixteen : ℕ
sixteen = 0x41800000

floats : List ℕ → List Float
floats [] = []
floats (x ∷ xs) = f32 x ∷ floats xs

-- by the merge range 1/128
count : List ℕ → ℕ → List ℕ → List ℕ → ℕ
count ds o verbs coords = path_cuts (f32 0x38800000) (floats ds) (f32 o) verbs (floats coords)

-- In order: a cut at a corner is the next edge's, and one at the run's end is none; the cuts of two runs are added, and each run is cut anew; those of a closed run's closing edge count; a point near the
-- first ends no edge; a run of one kept point has none.
worked : (count (four ∷ []) 0 (begin ∷ line ∷ line ∷ end_open ∷ []) (0 ∷ 0 ∷ four ∷ 0 ∷ four ∷ four ∷ []) ≡ 1)
    × (count (three ∷ []) 0 (begin ∷ line ∷ end_open ∷ begin ∷ line ∷ end_open ∷ []) (0 ∷ 0 ∷ eight ∷ 0 ∷ 0 ∷ four ∷ eight ∷ four ∷ []) ≡ 4)
    × (count (three ∷ []) 0 (begin ∷ line ∷ end_closed ∷ []) (0 ∷ 0 ∷ eight ∷ 0 ∷ []) ≡ 5)
    × (count (three ∷ []) 0 (begin ∷ line ∷ line ∷ end_closed ∷ []) (0 ∷ 0 ∷ eight ∷ 0 ∷ 0 ∷ 0 ∷ []) ≡ 5)
    × (count (three ∷ []) four (begin ∷ end_closed ∷ []) (0 ∷ 0 ∷ []) ≡ 0)
unfolding floats count cut_count runs_cuts runs_from names endpoints_of kept_points kept_behind trimmed all_near near_of marks_of marks_from cut_marks behind cuts_on spot_of passed_of cut_of falls_on next_cut first_cut worn_from length_at even_of
    length_of square_length_of plus_of minus_of times_of of_bits to_bits add sub mul div neg sum round size units odd span climb count_trailing_zeros count_leading_zeros lt eq le floor_root parts_root bits_root root_of
worked = (refl, refl, refl, refl, refl)

-- ---- which cut runs there are
abbrev ray : List ℕ
ray = 0 ∷ 0 ∷ eight ∷ 0 ∷ []

abbrev segment : List ℕ
segment = begin ∷ line ∷ end_open ∷ []

point_bits : List Endpoint → List ℕ
point_bits [] = []
point_bits (p ∷ ps) = to_bits binary32 p.position.x ∷ to_bits binary32 p.position.y ∷ p.id.0 ∷ point_bits ps

-- of each run 1 where it is closed, else 0, and then the x, y and number of its kept points
run_bits : Float → List (Run Endpoint) → List (List ℕ)
run_bits limit [] = []
run_bits limit (r ∷ rs) = (cond r.closed 1 0 ∷ point_bits (kept_points limit r.closed r.points)) ∷ run_bits limit rs

-- points whose squared distance is below the limit are near
cut_by : ℕ → List ℕ → ℕ → List ℕ → List ℕ → List (List ℕ)
cut_by limit ds o verbs coords = run_bits (f32 limit) (cut_runs (f32 limit) (floats ds) (f32 o) (runs_from 0 verbs (endpoints_of 0 (floats coords))))

-- by the merge range 1/128
cut : List ℕ → ℕ → List ℕ → List ℕ → List (List ℕ)
cut ds o verbs coords = cut_by 0x38800000 ds o verbs coords

-- In order: a cut at a corner ends the dash there once, and the corner is its last point; no cut falls at a run's end; an odd list is taken twice over; a length equal to the offset is used up, so that the
-- dash begins at 5; a closed run that no cut reaches is one open run, from p0 to p0; by the merge range 1/2 a dash of 1/4 is left with one point, and is none; a run of one kept point stays as it is.
cut_worked : (cut (four ∷ []) 0 (begin ∷ line ∷ line ∷ end_open ∷ []) (0 ∷ 0 ∷ four ∷ 0 ∷ four ∷ four ∷ []) ≡ (0 ∷ 0 ∷ 0 ∷ 0 ∷ four ∷ 0 ∷ 1 ∷ []) ∷ [])
    × (cut (eight ∷ four ∷ []) 0 segment ray ≡ (0 ∷ 0 ∷ 0 ∷ 0 ∷ eight ∷ 0 ∷ 1 ∷ []) ∷ [])
    × (cut (three ∷ []) 0 segment ray ≡ (0 ∷ 0 ∷ 0 ∷ 0 ∷ three ∷ 0 ∷ 0 ∷ []) ∷ (0 ∷ six ∷ 0 ∷ 0 ∷ eight ∷ 0 ∷ 1 ∷ []) ∷ [])
    × (cut (three ∷ five ∷ []) three segment ray ≡ (0 ∷ five ∷ 0 ∷ 0 ∷ eight ∷ 0 ∷ 1 ∷ []) ∷ [])
    × (cut (sixteen ∷ quarter ∷ []) 0 (begin ∷ line ∷ line ∷ end_closed ∷ []) (0 ∷ 0 ∷ four ∷ 0 ∷ four ∷ three ∷ []) ≡ (0 ∷ 0 ∷ 0 ∷ 0 ∷ four ∷ 0 ∷ 1 ∷ four ∷ three ∷ 2 ∷ 0 ∷ 0 ∷ 0 ∷ []) ∷ [])
    × (cut_by quarter (quarter ∷ 0x40f80000 ∷ []) 0 segment ray ≡ [])
    × (cut (three ∷ []) 0 (begin ∷ end_closed ∷ []) (0 ∷ 0 ∷ []) ≡ (1 ∷ 0 ∷ 0 ∷ 0 ∷ []) ∷ [])
unfolding floats point_bits run_bits cut_by cut lines_of cut_run cut_runs dashes_of dashes_from runs_from names endpoints_of kept_points kept_behind trimmed all_near near_of marks_of marks_from cut_marks behind cuts_on spot_of passed_of cut_of falls_on next_cut first_cut worn_from is_dash length_at even_of
    length_of square_length_of plus_of minus_of times_of of_bits to_bits add sub mul div neg sum round size units odd span climb count_trailing_zeros count_leading_zeros lt eq le floor_root parts_root bits_root root_of
cut_worked = (refl, refl, refl, refl, refl, refl, refl)
