-- Events put in turn: counts and lists. In this order: one event, all of them where no number is too large, and where one is. Assumes nothing.
use Prim.Native.Nat.{ℕ, zero, suc, ◌+◌, ◌≤◌}
use mathlib.Core.Path.{◌≡◌, refl, sym, ap, ◌∙◌}
use mathlib.Core.Bool.{Bool, true, false}
use mathlib.Core.List.{List, [], ◌∷◌, ◌++◌}
use native.Mathlib.Omega.{arith}
use lib.ListN.{length, length-append}
use Rattle.form.proofs.Taken.{never}
use Rattle.lists.specs.Over.{over, put_at}
use Rattle.lists.proofs.Laws.{put_append, put_none, length_put}
use Rattle.values.specs.declared.events.Event.{Event}
use Rattle.values.specs.declared.events.Event.TheVariants.{Nothing, Begin, Line, EndOpen, EndClosed, Beyond}
use Rattle.values.specs.Events.{put}
use Rattle.std.specs.Prelude.{Option, Some, None}
use Rattle.std.specs.Option.{option_or}
use Rattle.reader.specs.Counts.{verb_of, coords_at, large_of, verbs_of, coords_of, first_large, all_places, capped, verb_count, coord_count}
use Rattle.reader.specs.Pass.{Sheet, event_put}

-- no count is beyond the places that there are
pub record Counted (h : Sheet) : Type 0 where
  pub verbs : h.counts.verbs ≤ all_places
  pub coords : h.counts.coords ≤ all_places

pub counted_put : (h : Sheet) (e : Event) → Counted (event_put h e)
counted_put h e = record { verbs = omega arith; coords = omega arith }

abbrev pub put_all : Sheet → List Event → Sheet
put_all h [] = h
put_all h (e ∷ es) = put_all (event_put h e) es

-- what calls for nothing changes nothing
pub put_nothing : (h : Sheet) → Counted h → event_put h Nothing ≡ h
put_nothing h g =
    let p : capped (h.counts.verbs + 0) ≡ h.counts.verbs = omega (arith, g.verbs) in
    let q : capped (h.counts.coords + 0) ≡ h.counts.coords = omega (arith, g.coords) in
    let r : option_or h.counts.large None ≡ h.counts.large = or_nowhere h.counts.large in
    let v = put_none h.counts.verbs h.verbs in
    let c = put_none h.counts.coords h.coords in
    λ j. record { counts = record { verbs = p j; coords = q j; large = r j }; verbs = v j; coords = c j }
  where
    or_nowhere : (a : Option ℕ) → option_or a None ≡ a
    or_nowhere None = refl
    or_nowhere (Some i) = refl

pub all_put : (h : Sheet) (e : Event) (es : List Event) → Counted h → put_all h (put e es) ≡ put_all (event_put h e) es
all_put h Nothing es g = ap (λ x. put_all x es) (sym (put_nothing h g))
all_put h (Begin x y i) es g = refl
all_put h (Line x y i) es g = refl
all_put h (EndOpen i) es g = refl
all_put h (EndClosed i) es g = refl
all_put h (Beyond i) es g = refl

or_assoc : (a b c : Option ℕ) → option_or (option_or a b) c ≡ option_or a (option_or b c)
or_assoc None b c = refl
or_assoc (Some i) b c = refl

pub large_all : (h : Sheet) (es : List Event) → (put_all h es).counts.large ≡ option_or h.counts.large (first_large es)
large_all h [] = go h.counts.large
  where
    go : (a : Option ℕ) → a ≡ option_or a None
    go None = refl
    go (Some i) = refl
large_all h (e ∷ es) = large_all (event_put h e) es ∙ or_assoc h.counts.large (large_of e) (first_large es)

-- all of them, where no number is too large
abbrev pub sheet_with : Sheet → List Event → Sheet
sheet_with h es =
    record {
      counts = record { verbs = h.counts.verbs + length (verbs_of es); coords = h.counts.coords + length (coords_of es); large = option_or h.counts.large (first_large es) };
      verbs = put_at h.counts.verbs (verbs_of es) h.verbs;
      coords = put_at h.counts.coords (coords_of es) h.coords;
    }

is_found : Option ℕ → Bool
is_found None = false
is_found (Some i) = true

found : (i : ℕ) → Some i ≡ None → ⊥
unfolding is_found
found i e = never (sym (ap is_found e))

sound_count : (e : Event) → large_of e ≡ None → (verb_count e ≡ length (verb_of e)) × (coord_count e ≡ length (coords_at e))
sound_count Nothing g = (refl, refl)
sound_count (Begin x y i) g = (refl, refl)
sound_count (Line x y i) g = (refl, refl)
sound_count (EndOpen i) g = (refl, refl)
sound_count (EndClosed i) g = (refl, refl)
sound_count (Beyond i) g = absurd (found i g)

sound_first : (a b : Option ℕ) → option_or a b ≡ None → (a ≡ None) × (b ≡ None)
sound_first None b e = (refl, e)
sound_first (Some i) b e = absurd (found i e)

pub sound_all : (h : Sheet) (es : List Event) → first_large es ≡ None → h.counts.verbs + length (verbs_of es) ≤ all_places → h.counts.coords + length (coords_of es) ≤ all_places
    → put_all h es ≡ sheet_with h es
sound_all h [] n p q =
    let a : h.counts.verbs ≡ h.counts.verbs + 0 = omega arith in
    let b : h.counts.coords ≡ h.counts.coords + 0 = omega arith in
    let r = large_all h [] in
    let v = sym (put_none h.counts.verbs h.verbs) in
    let c = sym (put_none h.counts.coords h.coords) in
    λ j. record { counts = record { verbs = a j; coords = b j; large = r j }; verbs = v j; coords = c j }
sound_all h (e ∷ es) n p q =
    let s = sound_first (large_of e) (first_large es) n in
    let k = sound_count e s.0 in
    let x = length-append (verb_of e) (verbs_of es) in
    let y = length-append (coords_at e) (coords_of es) in
    let a : capped (h.counts.verbs + verb_count e) ≡ h.counts.verbs + length (verb_of e) = omega (arith, k.0) in
    let b : capped (h.counts.coords + coord_count e) ≡ h.counts.coords + length (coords_at e) = omega (arith, k.1) in
    let r = sound_all (event_put h e) es s.1 (omega arith) (omega arith) in
    let a2 : capped (h.counts.verbs + verb_count e) + length (verbs_of es) ≡ h.counts.verbs + length (verb_of e ++ verbs_of es) = omega arith in
    let b2 : capped (h.counts.coords + coord_count e) + length (coords_of es) ≡ h.counts.coords + length (coords_at e ++ coords_of es) = omega arith in
    let o = or_assoc h.counts.large (large_of e) (first_large es) in
    let v = ap (λ k. put_at k (verbs_of es) (put_at h.counts.verbs (verb_of e) h.verbs)) a ∙ put_append h.counts.verbs (verb_of e) (verbs_of es) h.verbs in
    let c = ap (λ k. put_at k (coords_of es) (put_at h.counts.coords (coords_at e) h.coords)) b ∙ put_append h.counts.coords (coords_at e) (coords_of es) h.coords in
    let t : sheet_with (event_put h e) es ≡ sheet_with h (e ∷ es) = λ j. record { counts = record { verbs = a2 j; coords = b2 j; large = o j }; verbs = v j; coords = c j } in
    r ∙ t

-- the events before the first number that is too large
abbrev pub sound_of : List Event → List Event
sound_of [] = []
sound_of (Nothing ∷ es) = Nothing ∷ sound_of es
sound_of (Begin x y i ∷ es) = Begin x y i ∷ sound_of es
sound_of (Line x y i ∷ es) = Line x y i ∷ sound_of es
sound_of (EndOpen i ∷ es) = EndOpen i ∷ sound_of es
sound_of (EndClosed i ∷ es) = EndClosed i ∷ sound_of es
sound_of (Beyond i ∷ es) = []

-- behind all places nothing is put
far : {A : Type 0} (k : ℕ) (ws xs : List A) → length xs ≤ k → put_at k ws xs ≡ xs
unfolding put_at over
far zero [] [] h = refl
far zero (w ∷ ws) [] h = refl
far zero ws (x ∷ xs) h = absurd (omega arith)
far (suc k) ws [] h = refl
far (suc k) ws (x ∷ xs) h = ap (λ l. x ∷ l) (far k ws xs (omega arith))

far_all : (h : Sheet) (es : List Event) → h.counts.verbs ≡ all_places → h.counts.coords ≡ all_places → length h.verbs ≤ all_places → length h.coords ≤ all_places
    → ((put_all h es).verbs ≡ h.verbs) × ((put_all h es).coords ≡ h.coords)
far_all h [] p q v c = (refl, refl)
far_all h (e ∷ es) p q v c =
    let x = far h.counts.verbs (verb_of e) h.verbs (omega arith) in
    let y = far h.counts.coords (coords_at e) h.coords (omega arith) in
    let r = far_all (event_put h e) es (omega arith) (omega arith) (omega (arith, length_put h.counts.verbs (verb_of e) h.verbs)) (omega (arith, length_put h.counts.coords (coords_at e) h.coords)) in
    (r.0 ∙ x, r.1 ∙ y)

held_one : (h x : Sheet) (e : Event) (rest : List Event) → large_of e ≡ None → h.counts.verbs + length (verb_of e ++ verbs_of rest) ≤ all_places
    → h.counts.coords + length (coords_at e ++ coords_of rest) ≤ all_places → length h.verbs ≤ all_places → length h.coords ≤ all_places
    → ((event_put h e).counts.verbs + length (verbs_of rest) ≤ all_places → (event_put h e).counts.coords + length (coords_of rest) ≤ all_places
    → length (event_put h e).verbs ≤ all_places → length (event_put h e).coords ≤ all_places
    → (x.verbs ≡ put_at (event_put h e).counts.verbs (verbs_of rest) (event_put h e).verbs) × (x.coords ≡ put_at (event_put h e).counts.coords (coords_of rest) (event_put h e).coords))
    → (x.verbs ≡ put_at h.counts.verbs (verb_of e ++ verbs_of rest) h.verbs) × (x.coords ≡ put_at h.counts.coords (coords_at e ++ coords_of rest) h.coords)
held_one h x e rest n p q v c f =
    let k = sound_count e n in
    let m = length-append (verb_of e) (verbs_of rest) in
    let l = length-append (coords_at e) (coords_of rest) in
    let a : capped (h.counts.verbs + verb_count e) ≡ h.counts.verbs + length (verb_of e) = omega (arith, k.0) in
    let b : capped (h.counts.coords + coord_count e) ≡ h.counts.coords + length (coords_at e) = omega (arith, k.1) in
    let r = f (omega arith) (omega arith) (omega (arith, length_put h.counts.verbs (verb_of e) h.verbs)) (omega (arith, length_put h.counts.coords (coords_at e) h.coords)) in (
      r.0 ∙ ap (λ k. put_at k (verbs_of rest) (put_at h.counts.verbs (verb_of e) h.verbs)) a ∙ put_append h.counts.verbs (verb_of e) (verbs_of rest) h.verbs,
      r.1 ∙ ap (λ k. put_at k (coords_of rest) (put_at h.counts.coords (coords_at e) h.coords)) b ∙ put_append h.counts.coords (coords_at e) (coords_of rest) h.coords,
    )

-- what the lists hold then: what comes before it
pub held_all : (h : Sheet) (es : List Event) → h.counts.verbs + length (verbs_of (sound_of es)) ≤ all_places → h.counts.coords + length (coords_of (sound_of es)) ≤ all_places
    → length h.verbs ≤ all_places → length h.coords ≤ all_places
    → ((put_all h es).verbs ≡ put_at h.counts.verbs (verbs_of (sound_of es)) h.verbs) × ((put_all h es).coords ≡ put_at h.counts.coords (coords_of (sound_of es)) h.coords)
held_all h [] p q v c = (sym (put_none h.counts.verbs h.verbs), sym (put_none h.counts.coords h.coords))
held_all h (Beyond i ∷ es) p q v c =
    let r = far_all (event_put h (Beyond i)) es (omega arith) (omega arith) (omega (arith, length_put h.counts.verbs [] h.verbs)) (omega (arith, length_put h.counts.coords [] h.coords)) in
    (r.0, r.1)
held_all h (Nothing ∷ es) p q v c = held_one h (put_all (event_put h Nothing) es) Nothing (sound_of es) refl p q v c (held_all (event_put h Nothing) es)
held_all h (Begin x y i ∷ es) p q v c = held_one h (put_all (event_put h (Begin x y i)) es) (Begin x y i) (sound_of es) refl p q v c (held_all (event_put h (Begin x y i)) es)
held_all h (Line x y i ∷ es) p q v c = held_one h (put_all (event_put h (Line x y i)) es) (Line x y i) (sound_of es) refl p q v c (held_all (event_put h (Line x y i)) es)
held_all h (EndOpen i ∷ es) p q v c = held_one h (put_all (event_put h (EndOpen i)) es) (EndOpen i) (sound_of es) refl p q v c (held_all (event_put h (EndOpen i)) es)
held_all h (EndClosed i ∷ es) p q v c = held_one h (put_all (event_put h (EndClosed i)) es) (EndClosed i) (sound_of es) refl p q v c (held_all (event_put h (EndClosed i)) es)
