-- Laws of `Attached`. Assumes nothing.
use mathlib.Core.Path.{refl}
use mathlib.Core.List.{List, [], ◌∷◌, ◌++◌}
use mathlib.Core.Logic.{◌⊎◌, inl, inr}
use Rattle.triangles.specs.Facts.{Chain, Linked}
use Rattle.triangles.specs.Tri.{Tri}
use Rattle.triangles.specs.Attached.{Has, first, later, Meets, Attached, Joined}

-- all of xs are among ys
abbrev pub Sub : List Tri → List Tri → Type 0
Sub xs ys = (u : Tri) → Has u xs → Has u ys

-- what is seen once ts came
unfoldable pub seen_after : List Tri → List Tri → List Tri
seen_after seen [] = seen
seen_after seen (t ∷ ts) = seen_after (t ∷ seen) ts

pub sub_cons : (xs ys : List Tri) (t : Tri) → Sub xs ys → Sub (t ∷ xs) (t ∷ ys)
sub_cons xs ys t s u (first e) = first e
sub_cons xs ys t s u (later h) = later (s u h)

pub sub_after : (seen ts : List Tri) → Sub seen (seen_after seen ts)
unfolding seen_after
sub_after seen [] u h = h
sub_after seen (t ∷ ts) u h = sub_after (t ∷ seen) ts u (later h)

pub attached_more : (xs ys ts : List Tri) → Sub xs ys → Attached xs ts → Attached ys ts
attached_more xs ys [] s a = tt
attached_more xs ys (t ∷ ts) s a = (
  record { with = a.0.with; has = s a.0.with a.0.has; two = a.0.two },
  attached_more (t ∷ xs) (t ∷ ys) ts (sub_cons xs ys t s) a.1,
)

pub attached_append : (seen xs ys : List Tri) → Attached seen xs → Attached (seen_after seen xs) ys → Attached seen (xs ++ ys)
unfolding seen_after
attached_append seen [] ys f g = g
attached_append seen (x ∷ xs) ys f g = (f.0, attached_append (x ∷ seen) xs ys f.1 g)

pub chain_attached : (seen : List Tri) (t : Tri) (ts : List Tri) → Chain t ts → Attached (t ∷ seen) ts
chain_attached seen t [] c = tt
chain_attached seen t (u ∷ us) c = (record { with = t; has = first refl; two = c.0 }, chain_attached (t ∷ seen) u us c.1)

pub linked_joined : (ts : List Tri) → Linked ts → Joined ts
linked_joined [] l = tt
linked_joined (t ∷ ts) l = chain_attached [] t ts l

-- the clause read plainly: a triangle t behind x and xs shares exactly two vertices with one of these
after_among : (seen ts : List Tri) (u : Tri) → Has u (seen_after seen ts) → Has u seen ⊎ Has u ts
unfolding seen_after
after_among seen [] u h = inl h
after_among seen (t ∷ ts) u h = go (after_among (t ∷ seen) ts u h)
  where
    go : Has u (t ∷ seen) ⊎ Has u ts → Has u seen ⊎ Has u (t ∷ ts)
    go (inl (first e)) = inr (first e)
    go (inl (later l)) = inl l
    go (inr l) = inr (later l)

attached_at : (seen xs : List Tri) (t : Tri) (ys : List Tri) → Attached seen (xs ++ t ∷ ys) → Meets t (seen_after seen xs)
unfolding seen_after
attached_at seen [] t ys a = a.0
attached_at seen (x ∷ xs) t ys a = attached_at (x ∷ seen) xs t ys a.1

pub joined_plainly : (x : Tri) (xs : List Tri) (t : Tri) (ys : List Tri) → Joined (x ∷ (xs ++ t ∷ ys)) → Meets t (x ∷ xs)
joined_plainly x xs t ys a =
    let m = attached_at (x ∷ []) xs t ys a in
    record { with = m.with; has = go m.with (after_among (x ∷ []) xs m.with m.has); two = m.two }
  where
    go : (u : Tri) → Has u (x ∷ []) ⊎ Has u xs → Has u (x ∷ xs)
    go u (inl (first e)) = first e
    go u (inl (later x)) = elim x [ ]
    go u (inr l) = later l
