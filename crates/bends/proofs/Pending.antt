-- Joints one after another: what the first and the second pass need of both, and what they do together; then a pass that is part of the way. Assumes nothing.
use Prim.Native.Nat.{ℕ, ◌+◌, ◌<◌}
use mathlib.Core.Path.{◌≡◌, refl, sym, ◌∙◌}
use mathlib.Core.Bool.{Bool, false, true≢false}
use mathlib.Core.List.{List, [], ◌∷◌, ◌++◌, map-append, append_assoc, append-nil}
use native.Mathlib.Omega.{arith}
use lib.ListN.{length}
use Rattle.endpoint.specs.Endpoint.{id_limit}
use Rattle.lists.proofs.All.{all_front, all_back}
use Rattle.pieces.specs.Piece.{Piece, Lists, next_vertex}
use Rattle.pieces.proofs.Pieces.{puts_none}
use Rattle.options.specs.declared.Stroke.{Stroke}
use Rattle.strip.specs.Strip.{step_of, steps_of, StripFits}
use Rattle.strip.specs.declared.Strip.{Strip}
use Rattle.strip.proofs.Pending as strips
use Rattle.strip.proofs.Steps.{steps_append}
use Rattle.fans.specs.Weft.{nothing, then, WeftFits}
use Rattle.fans.specs.declared.Round.{Round}
use Rattle.fans.proofs.Wefts.{then_assoc, weft_front, weft_back, weft_both}
use Rattle.bends.specs.Bend.{bend_weft}
use Rattle.bends.specs.Weave.{joints_in, woven_from, due_after, WeaveFits, WeavePasses}
use Rattle.bends.specs.declared.Bend.{Bend}
use Rattle.bends.specs.declared.Weave.{Weave}

joints_append : (xs ys : List Bend) → joints_in (xs ++ ys) ≡ joints_in xs ++ joints_in ys
joints_append xs ys = map-append (λ (b : Bend). b.joint) xs ys

due_append : (due : Bool) (xs ys : List Bend) → due_after due (xs ++ ys) ≡ due_after (due_after due xs) ys
due_append due [] ys = refl
due_append due (x ∷ xs) [] = refl
due_append due (x ∷ xs) (y ∷ ys) = refl

due_false : (xs : List Bend) → due_after false xs ≡ false
due_false [] = refl
due_false (x ∷ xs) = refl

then_alike : (f g h : ℕ → Piece) (i : ℕ) → ((j : ℕ) → g j ≡ h j) → then f g i ≡ then f h i
unfolding then
then_alike f g h i e = rw (e (i + length (f i).vertices))

then_first : (g : ℕ → Piece) (i : ℕ) → then nothing g i ≡ g i
unfolding then
then_first g i = let z : i + 0 ≡ i = omega arith in rw z

pub woven_append : (o : Stroke) (r : Round) (s : Strip) (due : Bool) (xs ys : List Bend) (i : ℕ)
    → woven_from o r s due (xs ++ ys) i ≡ then (woven_from o r s due xs) (woven_from o r (steps_of s (joints_in xs)) (due_after due xs) ys) i
unfolding woven_from steps_of
woven_append o r s due [] ys i = sym (then_first (woven_from o r s due ys) i)
woven_append o r s due (x ∷ xs) ys i =
    let f = bend_weft o r s due x in
    let s1 = step_of s x.joint in
    let rest : ℕ → Piece = woven_from o r (steps_of s1 (joints_in xs)) false ys in
    then_alike f (woven_from o r s1 false (xs ++ ys)) (then (woven_from o r s1 false xs) rest) i (λ j. rw (due_false xs) at (woven_append o r s1 false xs ys j))
    ∙ sym (then_assoc f (woven_from o r s1 false xs) rest i)

module _ {write : Bool} {o : Stroke} {r : Round} {w : Weave} {l : Lists} where
  -- nothing
  pub puts_nothing : WeavePasses write o r [] w l l w
  unfolding steps_of woven_from
  puts_nothing = record { strip = refl; due = refl; weft = puts_none }

  -- one pass after another
  module _ (xs ys : List Bend) (h : WeaveFits write o r w (xs ++ ys) l) where
    split : WeftFits write w.place (then (woven_from o r w.strip w.due xs) (woven_from o r (steps_of w.strip (joints_in xs)) (due_after w.due xs) ys)) l
    split = rw (woven_append o r w.strip w.due xs ys (next_vertex w.place)) at h.fits

    joints : StripFits false w.strip (joints_in xs ++ joints_in ys) l
    joints = rw (joints_append xs ys) at h.strip

    pub has_front : WeaveFits write o r w xs l
    has_front = record {
      shallow = h.shallow;
      strip = strips.has_front (joints_in xs) (joints_in ys) joints;
      legs = all_front (λ (b : Bend). b.leg.from.id.0 < id_limit) xs ys h.legs;
      fits = weft_front (woven_from o r w.strip w.due xs) (woven_from o r (steps_of w.strip (joints_in xs)) (due_after w.due xs) ys) split;
    }

    pub has_back : {l1 : Lists} {w1 : Weave} → WeavePasses write o r xs w l l1 w1 → WeaveFits write o r w1 ys l1
    has_back {l1} {w1} e = record {
      shallow = h.shallow;
      strip = strips.has_back (joints_in xs) (joints_in ys) joints (record { state = e.strip; lays = λ t. absurd (true≢false (sym t)) });
      legs = all_back (λ (b : Bend). b.leg.from.id.0 < id_limit) xs ys h.legs;
      fits = rw (e.strip, e.due) (weft_back (woven_from o r w.strip w.due xs) (woven_from o r (steps_of w.strip (joints_in xs)) (due_after w.due xs) ys) e.weft split);
    }

  pub puts_both : {xs ys : List Bend} {l1 l2 : Lists} {w1 w2 : Weave} → WeavePasses write o r xs w l l1 w1 → WeavePasses write o r ys w1 l1 l2 w2 → WeavePasses write o r (xs ++ ys) w l l2 w2
  puts_both {xs} {ys} e f = record {
    strip = f.strip ∙ rw (e.strip, joints_append xs ys) (sym (steps_append w.strip (joints_in xs) (joints_in ys)));
    due = f.due ∙ rw e.due (sym (due_append w.due xs ys));
    weft = rw (woven_append o r w.strip w.due xs ys (next_vertex w.place))
        (weft_both (woven_from o r w.strip w.due xs) (woven_from o r (steps_of w.strip (joints_in xs)) (due_after w.due xs) ys) e.weft (rw (e.strip, e.due) at f.weft));
  }

-- part of the way: of the joints bs0, from the state w0 and the lists l0 on, bs are to come at the state w and the lists l
pub record Midway (write : Bool) (o : Stroke) (r : Round) (w0 : Weave) (bs0 : List Bend) (l0 : Lists) (bs : List Bend) (w : Weave) (l : Lists) : Type 0 where
  pub done : List Bend
  pub split : bs0 ≡ done ++ bs
  pub puts : WeavePasses write o r done w0 l0 l w

pub midway_start : {write : Bool} {o : Stroke} {r : Round} {w : Weave} {bs : List Bend} {l : Lists} → Midway write o r w bs l bs w l
midway_start = record { done = []; split = refl; puts = puts_nothing }

module _ {write : Bool} {o : Stroke} {r : Round} {w0 : Weave} {bs0 : List Bend} {l0 : Lists} {w : Weave} {l : Lists} where
  pub midway_has : (xs bs : List Bend) → WeaveFits write o r w0 bs0 l0 → Midway write o r w0 bs0 l0 (xs ++ bs) w l → WeaveFits write o r w xs l
  midway_has xs bs h m = has_front xs bs (has_back m.done (xs ++ bs) (rw m.split at h) m.puts)

  pub midway_put : (xs bs : List Bend) → Midway write o r w0 bs0 l0 (xs ++ bs) w l → {w1 : Weave} {l1 : Lists} → WeavePasses write o r xs w l l1 w1 → Midway write o r w0 bs0 l0 bs w1 l1
  midway_put xs bs m e = record { done = m.done ++ xs; split = m.split ∙ sym (append_assoc m.done xs bs); puts = puts_both m.puts e }

  pub midway_end : Midway write o r w0 bs0 l0 [] w l → WeavePasses write o r bs0 w0 l0 l w
  midway_end m = rw (m.split, append-nil m.done) m.puts
