-- A triangle as the code holds it. Assumes nothing.
use Rattle.triangles.specs.Tri.{Tri}
use Rattle.inspect.specs.declared.three.Three.{Three}

abbrev pub tri_of : Three → Tri
tri_of t = record { a = t.a; b = t.b; c = t.c }
