-- The passes over a run's strip one after another: what each needs, and what they leave together. The plan: an open run's joints are split as the passes come to them;
-- strip's `has_front`, `has_back` and `puts_both` then give each its part. A closed run's are those of its points behind the second kept one, and of p0 and p1 again. Assumes nothing.
use mathlib.Core.Path.{◌≡◌, ap}
use mathlib.Core.Bool.{Bool, true, false}
use mathlib.Core.List.{List, [], ◌∷◌, ◌++◌, append-nil}
use Rattle.endpoint.specs.declared.Endpoint.{Endpoint}
use Rattle.endpoint.specs.declared.EndpointData.{EndpointData}
use Rattle.endpoint.specs.declared.VertexId.{VertexId}
use Rattle.pieces.specs.Piece.{Lists}
use Rattle.options.specs.declared.Stroke.{Stroke}
use Rattle.kept.specs.Kept.{kept_behind}
use Rattle.joints.specs.Joint.{start_cap_of, end_cap_of, joints_from, joints_of}
use Rattle.joints.specs.Leg.{leg_of, first_leg_of}
use Rattle.joints.specs.declared.leg.Leg.{Leg}
use Rattle.strip.specs.Strip.{StripFits, StripPasses, start_of}
use Rattle.strip.specs.declared.Strip.{Strip}
use Rattle.strip.proofs.Pending.{has_front, has_back, puts_both}
use Rattle.along.specs.Laws.{joints_append}
use Rattle.along.specs.Points.{walked}
use Rattle.along.specs.Walk.{Walks, needs_of, does_of}
use Rattle.along.specs.declared.Pass.{Pass}
use Rattle.along.specs.declared.Walk.{Walk}

-- begin, pass the points ps behind the second kept one, finish
module _ (o : Stroke) (p0 p1 : Endpoint) (ps : List Endpoint) {first : Leg} (is : first ≡ first_leg_of o.half_width p0 p1) where
  abbrev ks : List Endpoint
  ks = kept_behind o.near first.to ps

  abbrev way : List EndpointData
  way = joints_from true o first ks

  abbrev reached : Leg
  reached = walked true o first ks

  open_split : joints_of false o (p0 ∷ p1 ∷ kept_behind o.near p1 ps) ≡ (start_cap_of o first ∷ []) ++ (way ++ (end_cap_of o reached ∷ []))
  unfolding joints_of joints_from leg_of
  open_split =
      let leg = first_leg_of o.half_width p0 p1 in
      rw is (ap (λ (l : List EndpointData). start_cap_of o leg ∷ l) (simp append-nil at (joints_append o false leg (kept_behind o.near p1 ps) [])))

  module _ {write : Bool} {base : VertexId} {l0 : Lists} (has : StripFits write (start_of base) (joints_of false o (p0 ∷ p1 ∷ kept_behind o.near p1 ps)) l0) where
    whole : StripFits write (start_of base) ((start_cap_of o first ∷ []) ++ (way ++ (end_cap_of o reached ∷ []))) l0
    whole = rw open_split at has

    pub begin_has : StripFits write (start_of base) (start_cap_of o first ∷ []) l0
    begin_has = has_front (start_cap_of o first ∷ []) (way ++ (end_cap_of o reached ∷ [])) whole

    module _ {w1 : Walk} {l1 : Lists} (b : Walks write (start_cap_of o first ∷ []) first (record { leg = first; strip = start_of base }) l0 l1 w1) where
      rest_has : StripFits write w1.strip (way ++ (end_cap_of o reached ∷ [])) l1
      rest_has = has_back (start_cap_of o first ∷ []) (way ++ (end_cap_of o reached ∷ [])) whole b.puts

      pub pass_has : StripFits write w1.strip (joints_from true o w1.leg (kept_behind o.near w1.leg.to ps)) l1
      pass_has = rw b.leg (has_front way (end_cap_of o reached ∷ []) rest_has)

      module _ {w2 : Walk} {l2 : Lists} (c : Walks write (joints_from true o w1.leg (kept_behind o.near w1.leg.to ps)) (walked true o w1.leg (kept_behind o.near w1.leg.to ps)) w1 l1 l2 w2) where
        passed_puts : StripPasses write way w1.strip l1 l2 w2.strip
        passed_puts = rw b.leg at c.puts

        pub finish_has : StripFits write w2.strip (end_cap_of o w2.leg ∷ []) l2
        finish_has = rw (c.leg, b.leg) (has_back way (end_cap_of o reached ∷ []) rest_has passed_puts)

        pub open_puts : {s : Strip} {l3 : Lists} → StripPasses write (end_cap_of o w2.leg ∷ []) w2.strip l2 l3 s
            → StripPasses write (joints_of false o (p0 ∷ p1 ∷ kept_behind o.near p1 ps)) (start_of base) l0 l3 s
        open_puts f = rw open_split (puts_both b.puts (puts_both passed_puts (rw (c.leg, b.leg) at f)))

module _ (pass : Pass) (p0 p1 : Endpoint) (ps : List Endpoint) {first : Leg} (is : first ≡ first_leg_of pass.stroke.half_width p0 p1) {base : VertexId} {s : Strip} (start : s ≡ start_of base) where
  abbrev o : Stroke
  o = pass.stroke

  abbrev all : List Endpoint
  all = kept_behind o.near first.to ps ++ (p0 ∷ p1 ∷ [])

  pub closed_has : {l : Lists} → StripFits pass.write (start_of base) (joints_of true o (p0 ∷ p1 ∷ kept_behind o.near p1 ps)) l → needs_of pass tt all (record { leg = first; strip = s }) l
  unfolding joints_of leg_of
  closed_has h = rw (is, start) h

  pub closed_puts : {l l' : Lists} {w : Walk} → does_of pass tt all (record { leg = first; strip = s }) l l' w
      → StripPasses pass.write (joints_of true o (p0 ∷ p1 ∷ kept_behind o.near p1 ps)) (start_of base) l l' w.strip
  unfolding joints_of leg_of
  closed_puts e = rw (is, start) at e.puts
