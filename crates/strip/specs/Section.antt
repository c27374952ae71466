-- Rule 9: the sections of a run. Assumes nothing.
use Rattle.std.specs.Prelude.{ℕ, ◌+◌, ◌-◌, List, [], ◌∷◌}
use Rattle.endpoint.specs.Endpoint.{side_count_of}
use Rattle.endpoint.specs.declared.EndpointData.{EndpointData}
use Rattle.strip.specs.declared.section.Section.{Section}
use Rattle.strip.specs.Joint.{joint_count}

-- "A section is (N, P), its negative and positive vertex."
abbrev pub section_of : ℕ → ℕ → Section
section_of n p = record { negative = record { 0 = n }; positive = record { 0 = p } }

-- "A join has two sections, before and after it.": before it the first vertex of each side, where the joint's vertices are numbered from base
abbrev pub before_of : ℕ → EndpointData → Section
before_of base j = section_of (base + side_count_of j.positive) base

-- after it the last vertex of each side
abbrev pub after_of : ℕ → EndpointData → Section
after_of base j = section_of (base + side_count_of j.positive + side_count_of j.negative - 1) (base + side_count_of j.positive - 1)

-- the sections in the run's order; "Vertex numbers go on"
unfoldable pub sections : ℕ → List EndpointData → List Section
sections base [] = []
sections base (j ∷ js) = before_of base j ∷ after_of base j ∷ sections (base + joint_count j) js
