-- A run point by point is a run of its kept points: what is to come is what the next point brings and what is to come behind it; the leg that is reached, by those that are kept. Assumes nothing.
use mathlib.Core.Path.{◌≡◌, refl, sym, ap, ◌∙◌}
use mathlib.Core.Bool.{Bool, true, false, cond}
use mathlib.Core.List.{List, [], ◌∷◌, ◌++◌, append_assoc, append-nil}
use Rattle.endpoint.specs.declared.Endpoint.{Endpoint}
use Rattle.endpoint.specs.declared.EndpointData.{EndpointData}
use Rattle.options.specs.declared.Stroke.{Stroke}
use Rattle.kept.specs.Kept.{near, kept_behind}
use Rattle.joints.specs.Leg.{leg_of, next_leg_of}
use Rattle.joints.specs.Joint.{joints_from}
use Rattle.joints.specs.declared.leg.Leg.{Leg}
use Rattle.along.specs.Points.{advanced, visit_of, visited, keeps, walked, passed}

module _ (o : Stroke) where
  -- the next point; qs are to come behind
  come_next : (sure closed : Bool) (leg : Leg) (p : Endpoint) (ps qs : List Endpoint)
      → joints_from closed o leg (keeps o.near sure leg.to (p ∷ ps) ++ qs)
      ≡ visited sure o leg p ++ joints_from closed o (visit_of sure o leg p) (keeps o.near sure (visit_of sure o leg p).to ps ++ qs)
  unfolding joints_from kept_behind visited visit_of next_leg_of leg_of
  come_next true closed leg p ps qs = refl
  come_next false closed leg p ps qs = go (near o.near leg.to p)
    where
      go : (t : Bool) → joints_from closed o leg (cond t (kept_behind o.near leg.to ps) (p ∷ kept_behind o.near p ps) ++ qs)
          ≡ cond t [] (advanced o leg p)
          ++ joints_from closed o (cond t leg (next_leg_of o.half_width leg p)) (kept_behind o.near (cond t leg (next_leg_of o.half_width leg p)).to ps ++ qs)
      go true = refl
      go false = refl

  pub passed_next : (sure : Bool) (leg : Leg) (p : Endpoint) (ps : List Endpoint)
      → passed sure o leg (p ∷ ps) ≡ visited sure o leg p ++ passed sure o (visit_of sure o leg p) ps
  passed_next sure leg p ps = simp append-nil at (come_next sure true leg p ps [])

  pub passed_none : (sure : Bool) (leg : Leg) → passed sure o leg [] ≡ []
  unfolding kept_behind joints_from
  passed_none true leg = refl
  passed_none false leg = refl

  come_none : (sure closed : Bool) (leg : Leg) (qs : List Endpoint) → joints_from closed o leg (keeps o.near sure leg.to [] ++ qs) ≡ passed sure o leg [] ++ joints_from closed o leg qs
  unfolding kept_behind joints_from
  come_none true closed leg qs = refl
  come_none false closed leg qs = refl

  -- all points of a list, and then qs
  pub come_all : (sure closed : Bool) (leg : Leg) (ps qs : List Endpoint)
      → joints_from closed o leg (keeps o.near sure leg.to ps ++ qs) ≡ passed sure o leg ps ++ joints_from closed o (walked sure o leg ps) qs
  unfolding walked
  come_all sure closed leg [] qs = come_none sure closed leg qs
  come_all sure closed leg (p ∷ ps) qs =
      let next = visit_of sure o leg p in
      come_next sure closed leg p ps qs ∙ ap (λ (l : List EndpointData). visited sure o leg p ++ l) (come_all sure closed next ps qs)
      ∙ rw (passed_next sure leg p ps)
      (sym (append_assoc (visited sure o leg p) (passed sure o next ps) (joints_from closed o (walked sure o next ps) qs)))

  -- ---- the leg
  -- the next point, behind which the same holds
  next_kept : (leg : Leg) (p : Endpoint) (ps : List Endpoint) → ((leg : Leg) → walked false o leg ps ≡ walked true o leg (kept_behind o.near leg.to ps))
      → walked false o leg (p ∷ ps) ≡ walked true o leg (kept_behind o.near leg.to (p ∷ ps))
  unfolding walked visit_of kept_behind next_leg_of leg_of
  next_kept leg p ps e = go (near o.near leg.to p)
    where
      go : (t : Bool) → walked false o (cond t leg (next_leg_of o.half_width leg p)) ps ≡ walked true o leg (cond t (kept_behind o.near leg.to ps) (p ∷ kept_behind o.near p ps))
      go true = e leg
      go false = e (next_leg_of o.half_width leg p)

  pub walked_kept : (sure : Bool) (leg : Leg) (ps : List Endpoint) → walked sure o leg ps ≡ walked true o leg (keeps o.near sure leg.to ps)
  unfolding walked kept_behind
  walked_kept true leg ps = refl
  walked_kept false leg [] = refl
  walked_kept false leg (p ∷ ps) = next_kept leg p ps (λ l. walked_kept false l ps)
