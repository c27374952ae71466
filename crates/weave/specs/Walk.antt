-- What a weaving pass along a run begins with, and what it does. Assumes nothing.
use Rattle.std.specs.Prelude.{◌≡◌, true, false, List}
use Rattle.endpoint.specs.declared.Endpoint.{Endpoint}
use Rattle.endpoint.specs.declared.VertexId.{VertexId}
use Rattle.pieces.specs.Piece.{Lists, from}
use Rattle.options.specs.declared.Stroke.{Stroke}
use Rattle.joints.specs.Joint.{start_cap_of}
use Rattle.joints.specs.declared.leg.Leg.{Leg}
use Rattle.strip.specs.Strip.{start_of, step_of}
use Rattle.along.specs.Points.{walked}
use Rattle.along.specs.declared.Pass.{Pass}
use Rattle.fans.specs.declared.Round.{Round}
use Rattle.bends.specs.Weave.{WeaveFits, WeavePasses}
use Rattle.bends.specs.declared.Bend.{Bend}
use Rattle.bends.specs.declared.Weave.{Weave}
use Rattle.weave.specs.Points.{bends_from}
use Rattle.weave.specs.declared.Walk.{Walk}

-- an open run behind its start cap: "The start cap's arcs follow the first edge's triangles"
abbrev pub opened_of : Stroke → Round → Leg → VertexId → VertexId → Weave
opened_of o r leg base arcs = record { strip = step_of (start_of base) (start_cap_of o leg); place = from arcs; due = r.caps }

-- a closed run
abbrev pub closed_of : VertexId → VertexId → Weave
closed_of base arcs = record { strip = start_of base; place = from arcs; due = false }

-- from w on the joints bs are passed, and the leg reached is to
pub record Walks (pass : Pass) (r : Round) (bs : List Bend) (to : Leg) (w : Walk) (l l' : Lists) (q : Walk) : Type 0 where
  pub leg : q.leg ≡ to
  pub puts : WeavePasses pass.write pass.stroke r bs w.weave l l' q.weave

-- what a pass needs from w on at the points ps, which are kept, and what it does
abbrev pub needs_of : Pass → Round → List Endpoint → Walk → Lists → Type 0
needs_of pass r ps w l = WeaveFits pass.write pass.stroke r w.weave (bends_from true pass.stroke w.leg ps) l

abbrev pub does_of : Pass → Round → List Endpoint → Walk → Lists → Lists → Walk → Type 0
does_of pass r ps w l l' q = Walks pass r (bends_from true pass.stroke w.leg ps) (walked true pass.stroke w.leg ps) w l l' q
