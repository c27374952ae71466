-- Keeping and trimming, one point more at the end. The plan: the next point near or far; then the last kept point and what is kept (`last_more`), and what the closing
-- end leaves, once a point stands behind. Assumes nothing.
use mathlib.Core.Path.{◌≡◌, ap}
use mathlib.Core.Bool.{Bool, true, false, cond, and-false}
use mathlib.Core.List.{List, [], ◌∷◌, ◌++◌}
use Rattle.endpoint.specs.declared.Endpoint.{Endpoint}
use Rattle.kept.specs.Kept.{near, kept_behind, all_near, trimmed}
use lib.Ieee.{Float}

module _ (limit : Float) where
  pub keep_near : (l p : Endpoint) (ps : List Endpoint) → near limit l p ≡ true → kept_behind limit l (p ∷ ps) ≡ kept_behind limit l ps
  unfolding kept_behind
  keep_near l p ps h = rw h

  pub keep_far : (l p : Endpoint) (ps : List Endpoint) → near limit l p ≡ false → kept_behind limit l (p ∷ ps) ≡ p ∷ kept_behind limit p ps
  unfolding kept_behind
  keep_far l p ps h = rw h

  -- the last kept point
  unfoldable pub last_kept : Endpoint → List Endpoint → Endpoint
  last_kept l [] = l
  last_kept l (p ∷ ps) = cond (near limit l p) (last_kept l ps) (last_kept p ps)

  -- one point more, which is near the last kept point or not
  pub last_more : (t : Bool) (l : Endpoint) (xs : List Endpoint) (c : Endpoint) → near limit (last_kept l xs) c ≡ t
      → (last_kept l (xs ++ c ∷ []) ≡ cond t (last_kept l xs) c) × (kept_behind limit l (xs ++ c ∷ []) ≡ kept_behind limit l xs ++ cond t [] (c ∷ []))
  unfolding last_kept kept_behind
  last_more t l [] c h = (rw h, rw h)
  last_more t l (x ∷ xs) c h = go (near limit l x) h (last_more t l xs c) (last_more t x xs c)
    where
      go : (s : Bool) → near limit (cond s (last_kept l xs) (last_kept x xs)) c ≡ t
          → (near limit (last_kept l xs) c ≡ t → (last_kept l (xs ++ c ∷ []) ≡ cond t (last_kept l xs) c) × (kept_behind limit l (xs ++ c ∷ []) ≡ kept_behind limit l xs ++ cond t [] (c ∷ [])))
          → (near limit (last_kept x xs) c ≡ t → (last_kept x (xs ++ c ∷ []) ≡ cond t (last_kept x xs) c) × (kept_behind limit x (xs ++ c ∷ []) ≡ kept_behind limit x xs ++ cond t [] (c ∷ [])))
          → (cond s (last_kept l (xs ++ c ∷ [])) (last_kept x (xs ++ c ∷ [])) ≡ cond t (cond s (last_kept l xs) (last_kept x xs)) c)
          × (cond s (kept_behind limit l (xs ++ c ∷ [])) (x ∷ kept_behind limit x (xs ++ c ∷ [])) ≡ cond s (kept_behind limit l xs) (x ∷ kept_behind limit x xs) ++ cond t [] (c ∷ []))
      go true e f g = f e
      go false e f g = ((g e).0, ap (λ (z : List Endpoint). x ∷ z) (g e).1)

  all_near_lem : (o : Endpoint) (xs : List Endpoint) (c : Endpoint) → near limit o c ≡ true → all_near limit o (xs ++ c ∷ []) ≡ all_near limit o xs
  unfolding all_near
  all_near_lem o [] c h = rw h
  all_near_lem o (x ∷ xs) c h = rw (all_near_lem o xs c h)

  all_far : (o : Endpoint) (xs : List Endpoint) (c : Endpoint) → near limit o c ≡ false → all_near limit o (xs ++ c ∷ []) ≡ false
  unfolding all_near
  all_far o [] c h = rw h
  all_far o (x ∷ xs) c h = rw (all_far o xs c h) (and-false (near limit o x))

  pub trim_near : (o : Endpoint) (xs : List Endpoint) (c : Endpoint) → near limit o c ≡ true → trimmed limit o (xs ++ c ∷ []) ≡ trimmed limit o xs
  unfolding trimmed all_near
  trim_near o [] c h = rw h
  trim_near o (x ∷ xs) c h = rw (trim_near o xs c h, all_near_lem o xs c h)

  pub trim_far : (o : Endpoint) (xs : List Endpoint) (c : Endpoint) → near limit o c ≡ false → trimmed limit o (xs ++ c ∷ []) ≡ xs ++ c ∷ []
  unfolding trimmed all_near
  trim_far o [] c h = rw h
  trim_far o (x ∷ xs) c h = rw (trim_far o xs c h, all_far o xs c h, and-false (near limit o x))
