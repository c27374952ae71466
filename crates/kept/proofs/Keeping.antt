-- What the kept points of a run have: any property that all its points have, `kept_all`; and none is near the one before it, in a closed run the first
-- not near the last, `kept_spaced`. Each is shown of the points behind the first, and then of what the closing end leaves of them. Assumes nothing.
use mathlib.Core.Path.{◌≡◌, refl, sym, ◌∙◌, subst}
use mathlib.Core.Bool.{Bool, true, false, ◌&&◌, cond, true≢false}
use mathlib.Core.List.{List, [], ◌∷◌, ◌++◌, append-nil}
use Rattle.endpoint.specs.declared.Endpoint.{Endpoint}
use Rattle.kept.specs.Kept.{near, kept_behind, all_near, trimmed, kept_points}
use Rattle.lists.specs.All.{All}
use lib.Ieee.{Float}

module _ (limit : Float) where
  -- of l and the points behind it, none near the one before
  abbrev pub Chain : Endpoint → List Endpoint → Type 0
  Chain l [] = Unit {0}
  Chain l (p ∷ ps) = (near limit l p ≡ false) × Chain p ps

  -- of the points of a run; in a closed run the first stands behind the last again
  abbrev pub Spaced : Bool → List Endpoint → Type 0
  Spaced closed [] = Unit {0}
  Spaced closed (p0 ∷ []) = Unit {0}
  Spaced closed (p0 ∷ p1 ∷ ps) = Chain p0 (p1 ∷ ps ++ cond closed (p0 ∷ []) [])

  -- ---- no point is made anew
  module _ (P : Endpoint → Type 0) where
    pub behind_all : (l : Endpoint) (ps : List Endpoint) → All P ps → All P (kept_behind limit l ps)
    unfolding kept_behind
    behind_all l [] a = tt
    behind_all l (p ∷ ps) a = go (near limit l p) (behind_all l ps a.1) (behind_all p ps a.1)
      where
        go : (t : Bool) → All P (kept_behind limit l ps) → All P (kept_behind limit p ps) → All P (cond t (kept_behind limit l ps) (p ∷ kept_behind limit p ps))
        go true b c = b
        go false b c = (a.0, c)

    trimmed_all : (p0 : Endpoint) (ps : List Endpoint) → All P ps → All P (trimmed limit p0 ps)
    unfolding trimmed
    trimmed_all p0 [] a = tt
    trimmed_all p0 (p ∷ ps) a = go (all_near limit p0 (p ∷ ps)) (trimmed_all p0 ps a.1)
      where
        go : (t : Bool) → All P (trimmed limit p0 ps) → All P (cond t [] (p ∷ trimmed limit p0 ps))
        go true b = tt
        go false b = (a.0, b)

    pub kept_all : (closed : Bool) (ps : List Endpoint) → All P ps → All P (kept_points limit closed ps)
    unfolding kept_points
    kept_all closed [] a = tt
    kept_all true (p0 ∷ ps) a = (a.0, trimmed_all p0 (kept_behind limit p0 ps) (behind_all p0 ps a.1))
    kept_all false (p0 ∷ ps) a = (a.0, behind_all p0 ps a.1)

  -- ---- a point is kept where it is not near
  behind_chain : (l : Endpoint) (ps : List Endpoint) → Chain l (kept_behind limit l ps)
  unfolding kept_behind
  behind_chain l [] = tt
  behind_chain l (p ∷ ps) = go (near limit l p) refl (behind_chain l ps) (behind_chain p ps)
    where
      go : (t : Bool) → near limit l p ≡ t → Chain l (kept_behind limit l ps) → Chain p (kept_behind limit p ps) → Chain l (cond t (kept_behind limit l ps) (p ∷ kept_behind limit p ps))
      go true e a b = a
      go false e a b = (e, b)

  -- ---- and the closing end leaves none near the first behind the last that is not
  trimmed_none : (p0 : Endpoint) (ps : List Endpoint) → all_near limit p0 ps ≡ true → trimmed limit p0 ps ≡ []
  unfolding trimmed
  trimmed_none p0 [] e = refl
  trimmed_none p0 (p ∷ ps) e = rw e

  trimmed_some : (p0 p : Endpoint) (ps : List Endpoint) → all_near limit p0 (p ∷ ps) ≡ false → trimmed limit p0 (p ∷ ps) ≡ p ∷ trimmed limit p0 ps
  unfolding trimmed
  trimmed_some p0 p ps e = rw e

  last_far : (p0 p : Endpoint) (ps : List Endpoint) → all_near limit p0 (p ∷ ps) ≡ false → all_near limit p0 ps ≡ true → near limit p0 p ≡ false
  unfolding all_near
  last_far p0 p ps e f = go (near limit p0 p) (all_near limit p0 ps) e f
    where
      go : (s t : Bool) → (s && t) ≡ false → t ≡ true → s ≡ false
      go true true e f = e
      go true false e f = absurd (true≢false (sym f))
      go false t e f = refl

  spaced : (closed : Bool) (p0 : Endpoint) (ks : List Endpoint) → Chain p0 (ks ++ cond closed (p0 ∷ []) []) → Spaced closed (p0 ∷ ks)
  spaced closed p0 [] c = tt
  spaced closed p0 (p1 ∷ ps) c = c

  -- that p0 is not near the last says that the last is not near p0, where nearness is symmetric
  module _ (P : Endpoint → Type 0) (symmetric : (p q : Endpoint) → P p → P q → near limit p q ≡ near limit q p) where
    ring : (p0 l : Endpoint) (ps : List Endpoint) → P p0 → All P ps → Chain l ps → all_near limit p0 ps ≡ false → Chain l (trimmed limit p0 ps ++ (p0 ∷ []))
    ring p0 l [] o a c e = absurd (true≢false (unfold all_near in e))
    ring p0 l (p ∷ ps) o a c e =
        subst (λ (ks : List Endpoint). Chain l (ks ++ (p0 ∷ []))) (sym (trimmed_some p0 p ps e)) (c.0, go (all_near limit p0 ps) refl (ring p0 p ps o a.1 c.1))
      where
        go : (t : Bool) → all_near limit p0 ps ≡ t → (all_near limit p0 ps ≡ false → Chain p (trimmed limit p0 ps ++ (p0 ∷ []))) → Chain p (trimmed limit p0 ps ++ (p0 ∷ []))
        go true f g = subst (λ (ks : List Endpoint). Chain p (ks ++ (p0 ∷ []))) (sym (trimmed_none p0 ps f)) (symmetric p p0 a.0 o ∙ last_far p0 p ps e f, tt)
        go false f g = g f

    pub kept_spaced : (closed : Bool) (ps : List Endpoint) → All P ps → Spaced closed (kept_points limit closed ps)
    unfolding kept_points
    kept_spaced closed [] a = tt
    kept_spaced false (p0 ∷ ps) a = spaced false p0 (kept_behind limit p0 ps) (rw append-nil (behind_chain p0 ps))
    kept_spaced true (p0 ∷ ps) a = go (all_near limit p0 (kept_behind limit p0 ps)) refl
      where
        go : (t : Bool) → all_near limit p0 (kept_behind limit p0 ps) ≡ t → Spaced true (p0 ∷ trimmed limit p0 (kept_behind limit p0 ps))
        go true e = subst (λ (ks : List Endpoint). Spaced true (p0 ∷ ks)) (sym (trimmed_none p0 (kept_behind limit p0 ps) e)) tt
        go false e =
            let ks = kept_behind limit p0 ps in
            spaced true p0 (trimmed limit p0 ks) (ring p0 p0 ks a.0 (behind_all P p0 ps a.1) (behind_chain p0 ps) e)
