-- The passes over a run one after another: what each needs, and what they leave together. The plan: an open run's joints are split as the passes come to them; bends'
-- `has_front`, `has_back` and `puts_both` then give each its part. A closed run's are those of its points behind the second kept one, and of p0 and p1 again. Assumes nothing.
use Prim.Native.Nat.{ℕ}
use mathlib.Core.Path.{◌≡◌, sym}
use mathlib.Core.Bool.{true, false, true≢false}
use mathlib.Core.List.{List, [], ◌∷◌, ◌++◌, append-nil}
use Rattle.endpoint.specs.declared.Endpoint.{Endpoint}
use Rattle.endpoint.specs.Endpoint.{side_count_of}
use Rattle.endpoint.specs.declared.EndpointData.{EndpointData}
use Rattle.endpoint.specs.declared.VertexId.{VertexId}
use Rattle.pieces.specs.Piece.{Lists, from}
use Rattle.pieces.specs.declared.Place.{Place}
use Rattle.kept.specs.Kept.{kept_behind}
use Rattle.joints.specs.Leg.{leg_of, first_leg_of}
use Rattle.joints.specs.declared.leg.Leg.{Leg}
use Rattle.strip.specs.Strip.{start_of, step_of, stepped_of, steps_of, StripFits}
use Rattle.strip.specs.declared.Strip.{Strip}
use Rattle.strip.proofs.Counting.{puts_one}
use Rattle.along.specs.Points.{walked}
use Rattle.along.specs.declared.Pass.{Pass}
use Rattle.options.specs.declared.Stroke.{Stroke}
use Rattle.fans.specs.declared.Round.{Round}
use Rattle.bends.specs.Weave.{WeaveFits, WeavePasses}
use Rattle.bends.specs.declared.Bend.{Bend}
use Rattle.bends.specs.declared.Weave.{Weave}
use Rattle.bends.proofs.Pending.{has_front, has_back, puts_both}
use Rattle.weave.specs.Laws.{bends_append}
use Rattle.weave.specs.Points.{end_bend, bends_from, bends_of}
use Rattle.weave.specs.Walk.{Walks, needs_of, does_of, opened_of, closed_of}
use Rattle.weave.specs.declared.Walk.{Walk}

module _ (pass : Pass) (r : Round) (p0 p1 : Endpoint) (ps : List Endpoint) {first : Leg} (is : first ≡ first_leg_of pass.stroke.half_width p0 p1) where
  abbrev o : Stroke
  o = pass.stroke

  abbrev ks : List Endpoint
  ks = kept_behind o.near first.to ps

  abbrev way : List Bend
  way = bends_from true o first ks

  abbrev reached : Leg
  reached = walked true o first ks

  -- ---- open: pass, finish
  open_split : bends_of false o (p0 ∷ p1 ∷ kept_behind o.near p1 ps) ≡ way ++ (end_bend o reached ∷ [])
  unfolding bends_of bends_from leg_of
  open_split = rw is (simp append-nil at (bends_append o false (first_leg_of o.half_width p0 p1) (kept_behind o.near p1 ps) []))

  module _ (base arcs : VertexId) {w0 : Weave} {l0 : Lists} (start : w0 ≡ opened_of o r first base arcs)
      (has : WeaveFits pass.write o r (opened_of o r (first_leg_of o.half_width p0 p1) base arcs) (bends_of false o (p0 ∷ p1 ∷ kept_behind o.near p1 ps)) l0) where
    whole : WeaveFits pass.write o r w0 (way ++ (end_bend o reached ∷ [])) l0
    whole = rw (start, is) (rw (open_split, is) at has)

    pub pass_has : WeaveFits pass.write o r w0 way l0
    pass_has = has_front way (end_bend o reached ∷ []) whole

    module _ {w : Walk} {l1 : Lists} (c : Walks pass r way reached (record { leg = first; weave = w0 }) l0 l1 w) where
      pub finish_has : WeaveFits pass.write o r w.weave (end_bend o w.leg ∷ []) l1
      finish_has = rw c.leg (has_back way (end_bend o reached ∷ []) whole c.puts)

      pub open_puts : {q : Weave} {l2 : Lists} → WeavePasses pass.write o r (end_bend o w.leg ∷ []) w.weave l1 l2 q
          → WeavePasses pass.write o r (bends_of false o (p0 ∷ p1 ∷ kept_behind o.near p1 ps)) (opened_of o r (first_leg_of o.half_width p0 p1) base arcs) l0 l2 q
      open_puts f = rw (open_split, ← is, ← start) (puts_both c.puts (rw c.leg at f))

  -- ---- closed: its points behind the second kept one, and p0 and p1 again
  module _ {base arcs : VertexId} {w0 : Weave} (start : w0 ≡ closed_of base arcs) where
    abbrev all : List Endpoint
    all = ks ++ (p0 ∷ p1 ∷ [])

    pub closed_has : {l : Lists} → WeaveFits pass.write o r (closed_of base arcs) (bends_of true o (p0 ∷ p1 ∷ kept_behind o.near p1 ps)) l → needs_of pass r all (record { leg = first; weave = w0 }) l
    unfolding bends_of leg_of
    closed_has h = rw (is, start) h

    pub closed_puts : {l l' : Lists} {w : Walk} → does_of pass r all (record { leg = first; weave = w0 }) l l' w
        → WeavePasses pass.write o r (bends_of true o (p0 ∷ p1 ∷ kept_behind o.near p1 ps)) (closed_of base arcs) l l' w.weave
    unfolding bends_of leg_of
    closed_puts e = rw (is, start) at e.puts

-- ---- where the passes begin
pub closed_start : {base arcs : VertexId} {s : Strip} {k : Place} → s ≡ start_of base → k ≡ from arcs → ◌≡◌ {A = Weave} (record { strip = s; place = k; due = false }) (closed_of base arcs)
closed_start e f = rw (e, f)

-- the strip behind its start cap, by how many vertices its sides have
pub cap_next : {s : Strip} {j : EndpointData} {l : Lists} → StripFits false s (j ∷ []) l
    → (p n : ℕ) → p ≡ side_count_of j.positive → n ≡ side_count_of j.negative → (next : Strip) → next ≡ stepped_of s p n → next ≡ step_of s j
unfolding steps_of
cap_next {l = l} h p n ep en next e = (puts_one h p n ep en {s' = next} {l' = l} e (λ t. absurd (true≢false (sym t)))).state
