-- `strip::lay_joint` meets its contract. The plan: the calls before the writers give the joint's sections (`told`); what has room, and what the writers leave together, Writing says of those. Assumes nothing.
use native.Mathlib.Omega.{arith}
use lib.ListN.{length-take, length-drop}
use Rattle.strip.proofs.Writing.{Sections, numbers_fit, vertices_fit, triangles_fit, both_come, joint_laid}
use Rattle.strip.proofs.lay_joint.Goals.{After-after-a}
use Rattle.strip.proofs.lay_joint.Goals as goal

told : (c : After-after-a) → Sections c.args.s c.args.j c.before-b.result c.after-a.result
told c = let next = c.next_vertex-next.ensures in record { before = rw next at c.before-b.ensures; after = rw next at c.after-a.ensures }

pub before-b-requires : goal.before-b-requires
before-b-requires c = rw c.next_vertex-next.ensures (numbers_fit c.requires)

pub after-a-requires : goal.after-a-requires
after-a-requires c = rw c.next_vertex-next.ensures (numbers_fit c.requires)

pub put_vertices-requires : goal.put_vertices-requires
put_vertices-requires c = simp (length-take, length-drop) (omega (arith, vertices_fit c.requires))

pub put_past-requires : goal.put_past-requires
put_past-requires c =
    let x = told (goal.at.put_past-requires c).After-after-a in
    record { a_in_bounds = simp (length-take, length-drop) (omega (arith, triangles_fit c.requires x)); b_value = both_come c.requires x }

pub returns : goal.returns
returns c =
    joint_laid c.requires (told (goal.at.returns c).After-after-a) _ _ _ c.put_vertices.ensures.v_after c.put_vertices.ensures.src_after c.put_past.ensures.t_after
