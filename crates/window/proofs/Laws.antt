-- Laws for callers, over any list xs that a window holds before a call: what `last_three` and `last_replaced` leave, what `got_of` reads, and
-- that each contract allows one outcome. Assumes nothing.
use Prim.Native.Nat.{ℕ, zero, suc, ◌-◌, ◌<◌, ◌≤◌}
use mathlib.Core.Path.{◌≡◌, refl, sym, ap, ◌∙◌}
use mathlib.Core.List.{List, [], ◌∷◌, ◌++◌}
use native.Mathlib.Omega.{arith}
use lib.ListN.{length, drop, get_or, length-append}
use lib.Seq.{drop-append-le}
use Rattle.endpoint.specs.declared.EndpointData.{EndpointData}
use Rattle.window.specs.Answer.{get_answer_of, change_answer_of, got_of, replaced_answer_of}
use Rattle.window.specs.Window.{items, last_three, last_replaced, ReplacesLast}
use Rattle.std.proofs.Common.{Option, Some, None, Result, Ok, Err}
use Rattle.window.specs.declared.answer.Empty.{Empty}
use Rattle.window.specs.declared.answer.ChangeAnswer.{ChangeAnswer}
use Rattle.window.specs.declared.answer.GetAnswer.{GetAnswer}
use Rattle.window.specs.declared.buffer.PointBuffer.{PointBuffer}
use Rattle.window.specs.declared.buffer.Replaced.{Replaced}

-- ---- what is held
module _ {A : Type 0} where
  pub length_zero : (xs : List A) → length xs ≡ 0 → xs ≡ []
  length_zero [] h = refl
  length_zero (x ∷ xs) h = absurd (omega arith)

  pub last_three_snoc : (xs : List A) (e : A) → last_three (xs ++ (e ∷ [])) ≡ drop (length xs - 2) xs ++ (e ∷ [])
  unfolding last_three
  last_three_snoc xs e =
      let n : length (xs ++ (e ∷ [])) - 3 ≡ length xs - 2 = simp length-append (omega arith) in
      rw (n, drop-append-le (length xs - 2) xs (e ∷ []) (omega arith))

  -- fewer than three: nothing gives way
  pub last_three_room : (xs : List A) (e : A) → length xs < 3 → last_three (xs ++ (e ∷ [])) ≡ xs ++ (e ∷ [])
  last_three_room xs e h =
      let n : length xs - 2 ≡ 0 = omega arith in
      rw (last_three_snoc, n)

  pub last_replaced_snoc : (xs : List A) (x e : A) → last_replaced (xs ++ (x ∷ [])) e ≡ xs ++ (e ∷ [])
  unfolding last_replaced
  last_replaced_snoc [] x e = refl
  last_replaced_snoc (y ∷ []) x e = refl
  last_replaced_snoc (y ∷ z ∷ xs) x e = ap (λ (l : List A). y ∷ l) (last_replaced_snoc (z ∷ xs) x e)

-- ---- what is read
pub got_of_found : (xs : List EndpointData) (i : ℕ) (d : EndpointData) → i < length xs → got_of xs i ≡ get_answer_of (Some (get_or xs i d))
unfolding got_of
got_of_found [] i d h = absurd (omega arith)
got_of_found (x ∷ xs) zero d h = refl
got_of_found (x ∷ xs) (suc i) d h = got_of_found xs i d (omega arith)

-- at or past the count
pub got_of_past : (xs : List EndpointData) (i : ℕ) → length xs ≤ i → got_of xs i ≡ get_answer_of None
unfolding got_of
got_of_past [] i h = refl
got_of_past (x ∷ xs) zero h = absurd (omega arith)
got_of_past (x ∷ xs) (suc i) h = got_of_past xs i (omega arith)

-- ---- what replacing the last answers
pub replaced_answer_of_some : (xs : List EndpointData) → 0 < length xs → replaced_answer_of xs ≡ change_answer_of (Ok tt)
unfolding replaced_answer_of
replaced_answer_of_some [] h = absurd (omega arith)
replaced_answer_of_some (x ∷ xs) h = refl

-- ---- one outcome: of two that a contract allows the answers are the same, and the windows hold the same
pub one_got : (g h : Option EndpointData) → get_answer_of g ≡ get_answer_of h → g ≡ h
one_got (Some e) (Some f) p = ap (λ (a : GetAnswer). Some a.endpoint) p
one_got (Some e) None p = absurd (let n = ap (λ (a : GetAnswer). a.number) p in omega arith)
one_got None (Some f) p = absurd (let n = ap (λ (a : GetAnswer). a.number) p in omega arith)
one_got None None p = refl

pub one_change : (c d : Result Unit Empty) → change_answer_of c ≡ change_answer_of d → c ≡ d
one_change (Ok u) (Ok v) p = refl
one_change (Ok u) (Err e) p = absurd (let n = ap (λ (a : ChangeAnswer). a.number) p in omega arith)
one_change (Err e) (Ok u) p = absurd (let n = ap (λ (a : ChangeAnswer). a.number) p in omega arith)
one_change (Err e) (Err f) p = refl

pub one_replaced : (w : PointBuffer) (e : EndpointData) (r s : Replaced) → ReplacesLast w e r → ReplacesLast w e s
    → (r.change ≡ s.change) × (items r.window ≡ items s.window)
one_replaced w e r s p q = (one_change r.change s.change (p.answer ∙ sym q.answer), p.after ∙ sym q.after)
