-- What this crate's writers do. The plan: triangles alone at a place (`faced`); a joint's five parts, one behind the other, each given what it needs by the law of two
-- (`weft_front`, `weft_back`), and joined again (`bend_passes`). Assumes nothing.
use Prim.Native.Nat.{ℕ, ◌+◌, ◌-◌, ◌*◌, ◌<◌}
use mathlib.Core.Path.{◌≡◌, refl, sym}
use mathlib.Core.Bool.{Bool, true, false, true≢false}
use mathlib.Core.List.{List, [], ◌∷◌}
use native.Mathlib.Omega.{arith}
use borrow.Rule.Slice.PartMut.{mid_of, put_mid}
use lib.Ieee.{Float}
use lib.ListN.{length}
use Rattle.endpoint.specs.Endpoint.{id_limit, side_count_of}
use Rattle.endpoint.specs.declared.EndpointData.{EndpointData}
use Rattle.lists.specs.Over.{over, flat}
use Rattle.lists.proofs.Parts.{put_part}
use Rattle.lists.proofs.Laws.{put_none}
use Rattle.triangles.specs.Tri.{Tri}
use Rattle.pieces.specs.Piece.{Piece, Lists, lent, flat_t, Fits, Passes}
use Rattle.pieces.specs.declared.Place.{Place}
use Rattle.pieces.proofs.Pieces.{behind_none, laid_triangles, puts_none}
use Rattle.options.specs.declared.Stroke.{Stroke}
use Rattle.strip.specs.Section.{before_of, after_of}
use Rattle.strip.specs.Joint.{joint_count}
use Rattle.strip.specs.Strip.{next_of, step_of, stepped_of, steps_of}
use Rattle.strip.specs.Triangle.{between}
use Rattle.strip.specs.declared.Strip.{Strip}
use Rattle.strip.specs.declared.section.Section.{Section}
use Rattle.strip.proofs.Counting.{puts_one}
use Rattle.strip.proofs.Joints.{joint_few, length_more}
use Rattle.strip.proofs.Steps.{piece_one}
use Rattle.fans.specs.Weft.{faces, nothing, then, WeftFits, WeftPasses}
use Rattle.fans.specs.declared.Round.{Round}
use Rattle.fans.proofs.Wefts.{weft_front, weft_back, weft_both}
use Rattle.bends.specs.Bend.{edge_faces, due_weft, arcs_weft, end_weft, bend_weft, FaceFits, Faced, BendFits, CountFits}
use Rattle.bends.specs.Weave.{woven_from, WeaveFits, WeavePasses}
use Rattle.bends.specs.declared.Bend.{Bend}
use Rattle.bends.specs.declared.Weave.{Weave}

-- ---- triangles alone
pub faced_none : (k : Place) (t : List ℕ) → Faced k [] t t k
unfolding flat
faced_none k t = record { place = sym (behind_none k); list = sym (put_none (3 * k.triangles) t) }

pub faced : (k : Place) (ts : List Tri) (t t' : List ℕ) (n : ℕ) → FaceFits k ts t → n ≡ length ts
    → t' ≡ over (flat_t ts) (mid_of (3 * k.triangles) (length t - 3 * k.triangles) t)
    → Faced k ts t (put_mid (3 * k.triangles) (length t - 3 * k.triangles) t t') (record { base = k.base; vertices = k.vertices; triangles = k.triangles + n })
faced k ts t t' n f e g =
    let z : k.vertices + 0 ≡ k.vertices = omega arith in
    record { place = rw (e, z); list = put_part t t' (flat_t ts) (3 * k.triangles) (omega (arith, f.room)) g }

module _ {k : Place} {ts : List Tri} {v : List Float} {s t : List ℕ} where
  pub face_fits : Fits true k (record { vertices = []; triangles = ts }) (lent v s t) → FaceFits k ts t
  face_fits f = record { few = f.faces; room = f.triangles refl }

  pub face_passes : {t' : List ℕ} {k' : Place} → Faced k ts t t' k' → Passes true k (record { vertices = []; triangles = ts }) (lent v s t) (lent v s t') k'
  face_passes {t'} e = record { place = e.place; lists = λ _. laid_triangles k ts v s t t' e.list }

-- ---- a joint's parts, where s and e are the sections before it and after it
module _ (o : Stroke) (r : Round) (w : Weave) (b : Bend) {s e : Section} (is : s ≡ before_of (next_of w.strip) b.joint) (ie : e ≡ after_of (next_of w.strip) b.joint) where
  abbrev one : ℕ → Piece
  one = faces (edge_faces w.strip s)

  abbrev two : ℕ → Piece
  two = due_weft o r w.due w.strip b.leg

  abbrev three : ℕ → Piece
  three = faces (between s e)

  abbrev four : ℕ → Piece
  four = arcs_weft r b s

  abbrev five : ℕ → Piece
  five = end_weft r b s

  module _ {v : List Float} {src t : List ℕ} (f : WeftFits true w.place (bend_weft o r w.strip w.due b) (lent v src t)) where
    whole : WeftFits true w.place (then one (then two (then three (then four five)))) (lent v src t)
    unfolding bend_weft
    whole = rw (is, ie) f

    pub edge_fits : FaceFits w.place (edge_faces w.strip s) t
    edge_fits = face_fits (weft_front one (then two (then three (then four five))) whole)

    module _ {t1 : List ℕ} {k1 : Place} (e1 : Faced w.place (edge_faces w.strip s) t t1 k1) where
      past1 : WeftFits true k1 (then two (then three (then four five))) (lent v src t1)
      past1 = weft_back one (then two (then three (then four five))) (face_passes e1) whole

      pub due_fits : WeftFits true k1 two (lent v src t1)
      due_fits = weft_front two (then three (then four five)) past1

      module _ {v2 : List Float} {src2 t2 : List ℕ} {k2 : Place} (e2 : WeftPasses true k1 two (lent v src t1) (lent v2 src2 t2) k2) where
        past2 : WeftFits true k2 (then three (then four five)) (lent v2 src2 t2)
        past2 = weft_back two (then three (then four five)) e2 past1

        pub own_fits : FaceFits k2 (between s e) t2
        own_fits = face_fits (weft_front three (then four five) past2)

        module _ {t3 : List ℕ} {k3 : Place} (e3 : Faced k2 (between s e) t2 t3 k3) where
          past3 : WeftFits true k3 (then four five) (lent v2 src2 t3)
          past3 = weft_back three (then four five) (face_passes e3) past2

          pub arcs_fits : WeftFits true k3 four (lent v2 src2 t3)
          arcs_fits = weft_front four five past3

          module _ {l4 : Lists} {k4 : Place} (e4 : WeftPasses true k3 four (lent v2 src2 t3) l4 k4) where
            pub end_fits : WeftFits true k4 five l4
            end_fits = weft_back four five e4 past3

            pub bend_passes : {l5 : Lists} {k5 : Place} → WeftPasses true k4 five l4 l5 k5 → WeftPasses true w.place (bend_weft o r w.strip w.due b) (lent v src t) l5 k5
            unfolding bend_weft
            bend_passes e5 =
                rw (← is, ← ie)
                (weft_both one (then two (then three (then four five))) (face_passes e1)
                (weft_both two (then three (then four five)) e2 (weft_both three (then four five) (face_passes e3) (weft_both four five e4 e5))))

-- the section before a joint, and the vertices behind its own
pub near_fit : (s : Section) (n : ℕ) (j : EndpointData) → s ≡ before_of n j → n + joint_count j < id_limit → (s.positive.0 + 1 < id_limit) × (s.negative.0 + 1 < id_limit)
near_fit s n j e h = rw e (omega (arith, joint_few j), omega (arith, joint_few j))

-- ---- one joint
module _ {write : Bool} {o : Stroke} {r : Round} {w : Weave} {b : Bend} {l : Lists} (h : WeaveFits write o r w (b ∷ []) l) where
  pub one_fits : BendFits write o r w b l
  unfolding woven_from
  one_fits = record {
    numbers = omega (arith, h.strip.fits.numbers, length_more b.joint []);
    joint = h.strip.numbered.0;
    from = h.legs.0;
    fits = weft_front (bend_weft o r w.strip w.due b) (woven_from o r (step_of w.strip b.joint) false []) h.fits;
  }

  pub next_is : (p n : ℕ) → p ≡ side_count_of b.joint.positive → n ≡ side_count_of b.joint.negative → (next : Strip) → next ≡ stepped_of w.strip p n → next ≡ step_of w.strip b.joint
  unfolding steps_of
  next_is p n ep en next e = (puts_one h.strip p n ep en {s' = next} {l' = l} e (λ t. absurd (true≢false (sym t)))).state

  pub count_fits : (next : Strip) → next ≡ step_of w.strip b.joint → CountFits r w b next
  unfolding step_of
  count_fits next e =
      let f = rw (piece_one w.strip b.joint) at h.strip.fits in
      record {
        shallow = h.shallow;
        is = e;
        vertices = omega (arith, h.fits.numbers);
        triangles = omega (arith, h.fits.faces);
        few = rw e f.faces;
      }

  pub one_puts : (next : Strip) → next ≡ step_of w.strip b.joint → {l' : Lists} (k : Place) → WeftPasses write w.place (bend_weft o r w.strip w.due b) l l' k
      → WeavePasses write o r (b ∷ []) w l l' (record { strip = next; place = k; due = false })
  unfolding woven_from steps_of
  one_puts next e k d = record { strip = e; due = refl; weft = weft_both (bend_weft o r w.strip w.due b) nothing d puts_none }
