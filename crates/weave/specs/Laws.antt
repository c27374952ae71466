-- What a weaving pass is held to (`Pen`): the joints of points one after another. Proved here, since a law's proof stands with the specs. Assumes nothing.
use mathlib.Core.Path.{◌≡◌, refl, sym, ap, ◌∙◌}
use mathlib.Core.Bool.{Bool, true}
use mathlib.Core.List.{List, [], ◌∷◌, ◌++◌}
use Rattle.endpoint.specs.declared.Endpoint.{Endpoint}
use Rattle.options.specs.declared.Stroke.{Stroke}
use Rattle.joints.specs.Leg.{next_leg_of}
use Rattle.joints.specs.declared.leg.Leg.{Leg}
use Rattle.along.specs.Laws.{walked_append}
use Rattle.along.specs.Pen.{PenLaws}
use Rattle.along.specs.Points.{visit_of, walked}
use Rattle.bends.specs.declared.Bend.{Bend}
use Rattle.bends.proofs.Pending.{puts_nothing, has_front, has_back, puts_both}
use Rattle.weave.specs.Points.{bend_of, bends_from}
use Rattle.weave.specs.Walk.{needs_of, does_of}
use Rattle.weave.specs.declared.Walk.{Walk}

pub bends_append : (o : Stroke) (closed : Bool) (leg : Leg) (xs ys : List Endpoint) → bends_from closed o leg (xs ++ ys) ≡ bends_from true o leg xs ++ bends_from closed o (walked true o leg xs) ys
unfolding bends_from walked visit_of
bends_append o closed leg [] ys = refl
bends_append o closed leg (x ∷ xs) ys =
    let next = next_leg_of o.half_width leg x in
    ap (λ (l : List Bend). bend_of o leg next ∷ l) (bends_append o closed next xs ys)

pub walk_laws : PenLaws (λ (w : Walk). w.leg) needs_of does_of
unfolding bends_from walked
walk_laws = record {
  none = λ o k w l. record { leg = refl; puts = puts_nothing };
  front = λ o k xs ys w l h. has_front (bends_from true o.stroke w.leg xs) (bends_from true o.stroke (walked true o.stroke w.leg xs) ys) (rw (bends_append o.stroke true w.leg xs ys) at h);
  back = λ o k xs ys w w1 l l1 h e.
      rw e.leg (has_back (bends_from true o.stroke w.leg xs) (bends_from true o.stroke (walked true o.stroke w.leg xs) ys) (rw (bends_append o.stroke true w.leg xs ys) at h) e.puts);
  both = λ o k xs ys w w1 w2 l l1 l2 e f. record {
    leg = f.leg ∙ rw e.leg (sym (walked_append o.stroke w.leg xs ys));
    puts = rw (bends_append o.stroke true w.leg xs ys) (puts_both e.puts (rw e.leg at f.puts));
  };
  reach = λ o k xs w w1 l l1 e. e.leg;
}
