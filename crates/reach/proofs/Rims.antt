-- What a vertex of an arc has: it is in reach, its advancement is finite, and before its centre is added it is as long as h within a millionth. Assumes nothing.
use mathlib.Core.Path.{refl, sym, subst}
use lib.Dec.{lit≤}
use Rattle.plane.specs.Vector.{plus_of, times_of}
use Rattle.options.specs.declared.Stroke.{Stroke}
use Rattle.pieces.specs.Piece.{Vertex}
use Rattle.vertices.specs.Vertex.{vertex_of}
use Rattle.arc.proofs.Lengths as arc
use Rattle.rounding.proofs.Scales.{one}
use Rattle.reach.specs.Lengths.{AboutCentre}
use Rattle.reach.proofs.Widths.{Wide}
use Rattle.reach.proofs.Beside.{looser}
use Rattle.reach.proofs.Edges.{unit_short}
use Rattle.reach.proofs.Joints.{Held, vertex_held}
use Rattle.reach.proofs.Advancements.{From}
use Rattle.reach.proofs.Arcs.{OnArc}

module _ (o : Stroke) (S : Wide o) where
  pub arc_held : {v : Vertex} → OnArc o S v → Held v
  arc_held A =
      let n = unit_short A.unit in
      subst Held (sym A.is) (vertex_held S.half A.centre A.inside A.normal A.advancement A.source (looser 2 227 (lit≤ tt) n.x) (looser 2 227 (lit≤ tt) n.y))

  pub arc_from : {v : Vertex} → OnArc o S v → From 0 v.advancement
  arc_from {v} A = subst (λ (w : Vertex). From 0 w.advancement) (sym A.is) (unfold vertex_of in A.from)

  pub arc_long : {v : Vertex} → OnArc o S v → AboutCentre o.half_width v.x v.y v.normal_x v.normal_y
  unfolding plus_of times_of vertex_of one
  arc_long A =
      let W = S.half in
      let E = arc.vertex A.normal o.half_width W.size A.unit W.value W.low W.high in
      let c = E.at in
      subst (λ (w : Vertex). AboutCentre o.half_width w.x w.y w.normal_x w.normal_y) (sym A.is)
      (record {
        centre = A.centre.position;
        x_is = refl;
        y_is = refl;
        long = record {
          half = W.size;
          half_is = W.value;
          a_down = c.s;
          a_units = c.x;
          a_is = c.x_is;
          b_down = c.t;
          b_units = c.y;
          b_is = c.y_is;
          least = E.within.low;
          most = E.within.high;
        };
      })
