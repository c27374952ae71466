-- W-211's traps, computed. Assumes nothing.
use mathlib.Core.Path.{◌≡◌, refl}
use mathlib.Core.List.{[], ◌∷◌}
use Rattle.refusals.specs.Numbers.{verdict, list_length, number_too_large, two_alike, vertex_unnamed, not_attached}
use Rattle.triangles.specs.Facts.{shared, in_tri}
use Rattle.inspect.specs.Answer.{sound, first_fault, faults_then, check_of, check_attached_of}
use Rattle.inspect.specs.Faults.{triangle_at, too_large, two_alike_in, alike, names, unnamed, touches, loose}
use Rattle.inspect.specs.First.{first, some}

no_vertex : check_of 0 [] ≡ sound
unfolding faults_then first_fault first
no_vertex = refl

one_vertex : check_of 1 [] ≡ verdict vertex_unnamed 0
unfolding faults_then first_fault first unnamed some
one_vertex = refl

one_number : check_of 0 (7 ∷ []) ≡ verdict list_length 0
unfolding faults_then
one_number = refl

as_large_as_the_count : check_of 2 (0 ∷ 1 ∷ 2 ∷ []) ≡ verdict number_too_large 2
unfolding faults_then first_fault first too_large
as_large_as_the_count = refl

large_before_alike : check_of 3 (0 ∷ 0 ∷ 9 ∷ []) ≡ verdict number_too_large 2
unfolding faults_then first_fault first too_large
large_before_alike = refl

two_are_alike : check_of 2 (0 ∷ 0 ∷ 1 ∷ []) ≡ verdict two_alike 0
unfolding faults_then first_fault first too_large alike two_alike_in triangle_at
two_are_alike = refl

last_unnamed : check_of 4 (0 ∷ 1 ∷ 2 ∷ []) ≡ verdict vertex_unnamed 3
unfolding faults_then first_fault first too_large alike two_alike_in triangle_at unnamed some names
last_unnamed = refl

shares_three : check_attached_of 3 (0 ∷ 1 ∷ 2 ∷ 2 ∷ 1 ∷ 0 ∷ []) ≡ verdict not_attached 1
unfolding faults_then first_fault first too_large alike two_alike_in triangle_at unnamed some names loose touches shared in_tri
shares_three = refl

-- what the mesh call writes of `M0 0L8 0M0 4L8 4`, two runs
two_runs : check_attached_of 8 (1 ∷ 0 ∷ 2 ∷ 1 ∷ 2 ∷ 3 ∷ 5 ∷ 4 ∷ 6 ∷ 5 ∷ 6 ∷ 7 ∷ []) ≡ verdict not_attached 2
unfolding faults_then first_fault first too_large alike two_alike_in triangle_at unnamed some names loose touches shared in_tri
two_runs = refl
