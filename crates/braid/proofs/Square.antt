-- Demand 3 of a round empty cap: 2^(k+2) vertices and two triangles fewer. Assumes nothing.
use Prim.Native.Nat.{ℕ, suc, ◌+◌, ◌^◌, ◌≤◌, ◌<◌}
use mathlib.Core.Path.{◌≡◌, refl, sym, ap}
use mathlib.Core.List.{List, [], ◌∷◌}
use native.Mathlib.Decide.{ℕ_discrete}
use native.Mathlib.Omega.{arith}
use lib.ListN.{length}
use Rattle.triangles.specs.Facts.{Own, AllOwn, Names, here, there, shared, Linked}
use Rattle.triangles.proofs.Having.{in_a_lem, in_b_lem, in_c_lem, in_none}
use Rattle.triangles.specs.Attached.{Covers}
use Rattle.braid.specs.Weave.{Item, added, strip, woven, Held}
use Rattle.braid.specs.Round.{square_items}
use Rattle.arc.proofs.Triangles.{pow_some}
use Rattle.braid.proofs.Woven.{woven_count, woven_own, woven_named, woven_joined}
use Rattle.braid.proofs.Rounds.{tri, span_ab, span_bc, span_ac, span_later, span_swap}

strip_square : (l k : ℕ) → strip (square_items l k) ≡ tri k (k + 1) (k + 2) ∷ tri k (k + 2) (k + 3) ∷ []
unfolding strip
strip_square l k = refl

square_own : (k : ℕ) → AllOwn k (k + 4) (tri k (k + 1) (k + 2) ∷ tri k (k + 2) (k + 3) ∷ [])
square_own k = (own (k + 1) (k + 2) (omega arith) (omega arith) (omega arith), (own (k + 2) (k + 3) (omega arith) (omega arith) (omega arith), tt))
  where
    own : (x y : ℕ) → k < x → x < y → y < k + 4 → Own k (k + 4) (tri k x y)
    own x y f g h = record {
      ab = λ z. omega arith;
      bc = λ z. omega arith;
      ac = λ z. omega arith;
      in_a = (omega arith, omega arith);
      in_b = (omega arith, omega arith);
      in_c = (omega arith, omega arith);
    }

square_linked : (k : ℕ) → Linked (tri k (k + 1) (k + 2) ∷ tri k (k + 2) (k + 3) ∷ [])
unfolding shared
square_linked k =
    (rw (in_a_lem (k + 1) (k + 2) k, in_c_lem k (k + 1) (k + 2), in_none k (k + 1) (k + 2) (k + 3) (λ z. omega arith) (λ z. omega arith) (λ z. omega arith)), tt)

square_named : (k x : ℕ) → k ≤ x → x < k + 4 → Names x (tri k (k + 1) (k + 2) ∷ tri k (k + 2) (k + 3) ∷ [])
square_named k x f g = go (ℕ_discrete k x) (ℕ_discrete (k + 1) x) (ℕ_discrete (k + 2) x)
  where
    go : Dec (k ≡ x) → Dec (k + 1 ≡ x) → Dec (k + 2 ≡ x) → Names x (tri k (k + 1) (k + 2) ∷ tri k (k + 2) (k + 3) ∷ [])
    go (yes a) b c = here {t = tri k (k + 1) (k + 2)} (rw (sym a) (in_a_lem (k + 1) (k + 2) k))
    go (no a) (yes b) c = here {t = tri k (k + 1) (k + 2)} (rw (sym b) (in_b_lem k (k + 2) (k + 1)))
    go (no a) (no b) (yes c) = here {t = tri k (k + 1) (k + 2)} (rw (sym c) (in_c_lem k (k + 1) (k + 2)))
    go (no a) (no b) (no c) = let d : x ≡ k + 3 = omega arith in there (here {t = tri k (k + 2) (k + 3)} (rw d (in_c_lem k (k + 2) (k + 3))))

square_held : (l k : ℕ) → Held [] (square_items l k)
square_held l k =
    let t = tri k (k + 1) (k + 2) in
    let u = tri k (k + 2) (k + 3) in (
      ((λ z. omega arith), span_later k (k + 1) u (t ∷ []) (span_ab k (k + 1) (k + 2) [])),
      (
        ((λ z. omega arith), span_later (k + 1) (k + 2) u (t ∷ []) (span_bc k (k + 1) (k + 2) [])),
        (
          ((λ z. omega arith), span_bc k (k + 2) (k + 3) (t ∷ [])),
          (((λ z. omega arith), span_swap k (k + 3) (u ∷ t ∷ []) (span_ac k (k + 2) (k + 3) (t ∷ []))), tt),
        ),
      ),
    )

pub square_added : (l k : ℕ) → 4 + added (square_items l k) ≡ 2 ^ suc (suc l)
unfolding added
square_added l k = omega (arith, pow_some l)

pub square_tally : (l k base : ℕ) → 2 + length (woven base (square_items l k)) ≡ 2 ^ suc (suc l)
square_tally l k base = omega (arith, woven_count base (square_items l k), ap length (strip_square l k), square_added l k)

pub square_covers : (l k : ℕ) → Covers k (k + 4 + added (square_items l k)) (woven (k + 4) (square_items l k))
square_covers l k =
    let ps : List Item = square_items l k in
    let own : AllOwn k (k + 4) (strip ps) = rw (strip_square l k) (square_own k) in
    let link : Linked (strip ps) = rw (strip_square l k) (square_linked k) in
    record {
      own = woven_own k (k + 4) (k + 4 + added ps) (k + 4) [] ps tt own (square_held l k) (omega arith) (omega arith);
      named = woven_named k (k + 4) ps (λ x f g. rw (strip_square l k) (square_named k x f g));
      joined = woven_joined k (k + 4) ps own link (square_held l k);
    }
