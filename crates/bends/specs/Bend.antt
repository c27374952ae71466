-- What a joint of a round run brings (W-209): the strip's triangles to it, past it, and the arcs between them. Assumes nothing.
use Rattle.std.specs.Prelude.{ℕ, ◌+◌, ◌-◌, ◌*◌, ◌≤◌, ◌<◌, ◌≡◌, Bool, ◌&&◌, cond, List, [], length}
use Rattle.plane.specs.Vector.{negated_of}
use Rattle.endpoint.specs.Endpoint.{id_limit}
use Rattle.endpoint.specs.declared.Side.TheVariants.{Positive, Negative}
use Rattle.lists.specs.Over.{put_at}
use Rattle.triangles.specs.Tri.{Tri}
use Rattle.pieces.specs.Piece.{Piece, Lists, flat_t, behind}
use Rattle.pieces.specs.declared.Place.{Place}
use Rattle.options.specs.declared.Stroke.{Stroke}
use Rattle.joints.specs.Joint.{start_cap_of}
use Rattle.joints.specs.declared.leg.Leg.{Leg}
use Rattle.strip.specs.Joint.{joint_count}
use Rattle.strip.specs.Section.{before_of, after_of}
use Rattle.strip.specs.Strip.{next_of, step_of}
use Rattle.strip.specs.Triangle.{between}
use Rattle.strip.specs.declared.Strip.{Strip}
use Rattle.strip.specs.declared.section.Section.{Section}
use Rattle.fans.specs.Fans.{gets_arc, side_weft, start_fan, end_fan, arc_size, fan_size}
use Rattle.fans.specs.Weft.{faces, given, then, WeftFits}
use Rattle.fans.specs.declared.Round.{Round}
use Rattle.bends.specs.declared.Bend.{Bend}
use Rattle.bends.specs.declared.Weave.{Weave}

-- the triangles from the last section, where the run has begun, to the section b
unfoldable pub edge_faces : Strip → Section → List Tri
edge_faces s b = cond s.begun (between s.last b) []

-- "The start cap's arcs follow the first edge's triangles": where its fan is due; the leg is then the first
unfoldable pub due_weft : Stroke → Round → Bool → Strip → Leg → ℕ → Piece
due_weft o r due s leg = given due (start_fan r.detail (start_cap_of o leg) s.last.negative s.last.positive (negated_of leg.edge.t))

-- "one arc from its first vertex, positive side first"; s is the section before the joint, the leg's direction the travel direction in
unfoldable pub arcs_weft : Round → Bend → Section → ℕ → Piece
arcs_weft r b s = let t = b.leg.edge.t in then (side_weft r b.joint Positive s.positive t) (side_weft r b.joint Negative s.negative t)

-- "the end cap's the last"
unfoldable pub end_weft : Round → Bend → Section → ℕ → Piece
end_weft r b s = given (b.end && r.caps) (end_fan r.detail b.joint s.negative s.positive b.leg.edge.t)

-- the edge, the start cap's fan, "the join's own triangles", behind them its arcs, the end cap's fan
unfoldable pub bend_weft : Stroke → Round → Strip → Bool → Bend → ℕ → Piece
bend_weft o r s due b =
    let before = before_of (next_of s) b.joint in
    let after = after_of (next_of s) b.joint in
    then (faces (edge_faces s before)) (then (due_weft o r due s b.leg) (then (faces (between before after)) (then (arcs_weft r b before) (end_weft r b before))))

-- how many vertices its arcs have
unfoldable pub bend_size : Round → Bool → Bend → ℕ
bend_size r due b =
    let k = r.detail in
    fan_size due k + (arc_size (gets_arc r.joins b.joint Positive) k + arc_size (gets_arc r.joins b.joint Negative) k) + fan_size (b.end && r.caps) k

-- the place behind it, counted, where next is the strip's next state
abbrev pub counted_of : Round → Weave → Bend → Strip → Place
counted_of r w b next = record {
  base = w.place.base;
  vertices = w.place.vertices + bend_size r w.due b;
  triangles = w.place.triangles + (next.place.triangles - w.strip.place.triangles) + bend_size r w.due b;
}

-- t has room for the triangles ts at a place, and they are there
pub record FaceFits (k : Place) (ts : List Tri) (t : List ℕ) : Type 0 where
  pub few : k.triangles + length ts < id_limit
  pub room : 3 * (k.triangles + length ts) ≤ length t

pub record Faced (k : Place) (ts : List Tri) (t t' : List ℕ) (k' : Place) : Type 0 where
  pub place : k' ≡ behind k (record { vertices = []; triangles = ts })
  pub list : t' ≡ put_at (3 * k.triangles) (flat_t ts) t

-- what a pass needs of the numbers, and of the lists where it writes
pub record BendFits (write : Bool) (o : Stroke) (r : Round) (w : Weave) (b : Bend) (l : Lists) : Type 0 where
  pub numbers : next_of w.strip + joint_count b.joint < id_limit
  pub joint : b.joint.id.0 < id_limit
  pub from : b.leg.from.id.0 < id_limit
  pub fits : WeftFits write w.place (bend_weft o r w.strip w.due b) l

-- what counting needs
pub record CountFits (r : Round) (w : Weave) (b : Bend) (next : Strip) : Type 0 where
  pub shallow : r.detail ≤ 6
  pub is : next ≡ step_of w.strip b.joint
  pub vertices : w.place.vertices < id_limit
  pub triangles : w.place.triangles < id_limit
  pub few : next.place.triangles < id_limit
