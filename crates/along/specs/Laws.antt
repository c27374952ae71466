-- What a strip's pass is held to (`Pen`): the joints of points one after another, and the leg that they reach. Proved here, since a law's proof stands with the specs. Assumes nothing.
use mathlib.Core.Path.{◌≡◌, refl, sym, ap, ◌∙◌}
use mathlib.Core.Bool.{Bool, true}
use mathlib.Core.List.{List, [], ◌∷◌, ◌++◌}
use Rattle.endpoint.specs.declared.Endpoint.{Endpoint}
use Rattle.endpoint.specs.declared.EndpointData.{EndpointData}
use Rattle.options.specs.declared.Stroke.{Stroke}
use Rattle.joints.specs.Leg.{next_leg_of}
use Rattle.joints.specs.Joint.{joint_of, joints_from}
use Rattle.joints.specs.declared.leg.Leg.{Leg}
use Rattle.strip.proofs.Pending.{puts_none, has_front, has_back, puts_both}
use Rattle.along.specs.Pen.{PenLaws}
use Rattle.along.specs.Points.{visit_of, walked}
use Rattle.along.specs.Walk.{needs_of, does_of}
use Rattle.along.specs.declared.Walk.{Walk}

module _ (o : Stroke) where
  pub joints_append : (closed : Bool) (leg : Leg) (xs ys : List Endpoint) → joints_from closed o leg (xs ++ ys) ≡ joints_from true o leg xs ++ joints_from closed o (walked true o leg xs) ys
  unfolding joints_from walked visit_of
  joints_append closed leg [] ys = refl
  joints_append closed leg (x ∷ xs) ys =
      let next = next_leg_of o.half_width leg x in
      ap (λ (l : List EndpointData). joint_of o leg next ∷ l) (joints_append closed next xs ys)

  pub walked_append : (leg : Leg) (xs ys : List Endpoint) → walked true o leg (xs ++ ys) ≡ walked true o (walked true o leg xs) ys
  unfolding walked
  walked_append leg [] ys = refl
  walked_append leg (x ∷ xs) ys = walked_append (visit_of true o leg x) xs ys

pub walk_laws : PenLaws (λ (w : Walk). w.leg) needs_of does_of
unfolding joints_from walked
walk_laws = record {
  none = λ o k w l. record { leg = refl; puts = puts_none };
  front = λ o k xs ys w l h. has_front (joints_from true o.stroke w.leg xs) (joints_from true o.stroke (walked true o.stroke w.leg xs) ys) (rw (joints_append o.stroke true w.leg xs ys) at h);
  back = λ o k xs ys w w1 l l1 h e.
      rw e.leg (has_back (joints_from true o.stroke w.leg xs) (joints_from true o.stroke (walked true o.stroke w.leg xs) ys) (rw (joints_append o.stroke true w.leg xs ys) at h) e.puts);
  both = λ o k xs ys w w1 w2 l l1 l2 e f. record {
    leg = f.leg ∙ rw e.leg (sym (walked_append o.stroke w.leg xs ys));
    puts = rw (joints_append o.stroke true w.leg xs ys) (puts_both e.puts (rw e.leg at f.puts));
  };
  reach = λ o k xs w w1 l l1 e. e.leg;
}
