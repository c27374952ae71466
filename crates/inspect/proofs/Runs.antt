-- The triangles of runs that follow one another: the first question is 0 of any number of them, the second exactly where at most one has triangles. Assumes nothing.
use Prim.Native.Nat.{ℕ, zero, suc, ◌≤◌, ◌<◌}
use mathlib.Core.Path.{◌≡◌, refl, sym, ap, subst, ◌∙◌}
use mathlib.Core.Bool.{true, not}
use mathlib.Core.List.{List, [], ◌∷◌, ◌++◌, append-nil}
use native.Mathlib.Omega.{arith}
use native.Mathlib.Decide.{dec_le}
use lib.ListN.{length, length-append}
use borrow.Author.Tests.{ne_eqb, lt-ltb}
use Rattle.lists.specs.Over.{flat}
use Rattle.refusals.specs.Numbers.{verdict, not_attached}
use Rattle.triangles.specs.Attached.{Joined}
use Rattle.triangles.specs.Facts.{In, Own, AllOwn, Names, shared}
use Rattle.triangles.specs.Tri.{Tri}
use Rattle.triangles.proofs.Having.{own_none, own_append, names_left, names_right}
use Rattle.inspect.specs.Answer.{sound, attached_of, check_of, check_attached_of}
use Rattle.inspect.specs.Faults.{triangle_count, triangle_at, touches, loose}
use Rattle.inspect.specs.Sound.{Sound}
use Rattle.inspect.specs.Together.{together, drawn_runs, first_drawn, Runs, none, run}
use Rattle.inspect.proofs.Exact.{sound_passes, after_sound, attached_passes, held_clear, not_loose}
use Rattle.inspect.proofs.Firsts.{Clear, some_clear, first_found}
use Rattle.inspect.proofs.Judging.{found}
use Rattle.inspect.proofs.Listed.{list_of, count_list, at_zero, at_suc, own_at, own_sound, joined_attached}

-- ---- what is so of each run is so of all
own_wider : (lo hi low high : ℕ) (ts : List Tri) → low ≤ lo → hi ≤ high → AllOwn lo hi ts → AllOwn low high ts
own_wider lo hi low high [] f g own = tt
own_wider lo hi low high (t ∷ ts) f g own =
    let o = own.0 in (
      record {
        ab = o.ab;
        bc = o.bc;
        ac = o.ac;
        in_a = (omega (arith, o.in_a), omega (arith, o.in_a));
        in_b = (omega (arith, o.in_b), omega (arith, o.in_b));
        in_c = (omega (arith, o.in_c), omega (arith, o.in_c));
      },
      own_wider lo hi low high ts f g own.1,
    )

runs_up : {lo hi : ℕ} {tss : List (List Tri)} → Runs lo hi tss → lo ≤ hi
runs_up none = omega arith
runs_up (run h own named join rest) = omega (arith, runs_up rest)

runs_own : {lo hi : ℕ} {tss : List (List Tri)} → Runs lo hi tss → AllOwn lo hi (together tss)
unfolding flat
runs_own none = tt
runs_own (run {lo} {mid} {hi} {ts} {tss} h own named join rest) =
    own_append lo hi ts (together tss) (own_wider lo mid lo hi ts (omega arith) (runs_up rest) own) (own_wider mid hi lo hi (together tss) h (omega arith) (runs_own rest))

runs_named : {lo hi : ℕ} {tss : List (List Tri)} → Runs lo hi tss → (x : ℕ) → In lo hi x → Names x (together tss)
unfolding flat
runs_named none x h = absurd (omega arith)
runs_named (run {lo} {mid} {hi} {ts} {tss} g own named join rest) x h = go (dec_le mid x) (λ l. runs_named rest x (l, h.1)) where
  go : Dec (mid ≤ x) → (mid ≤ x → Names x (together tss)) → Names x (ts ++ together tss)
  go (yes l) later = names_right x ts (together tss) (later l)
  go (no l) later = names_left x ts (together tss) (named x (omega arith, omega arith))

-- ---- the first question
module _ (count : ℕ) (tss : List (List Tri)) (runs : Runs 0 count tss) where
  pub runs_sound : Sound count (list_of (together tss))
  runs_sound = own_sound count (together tss) (runs_own runs) (λ x h. runs_named runs x (omega arith, h))

  pub runs_pass : check_of count (list_of (together tss)) ≡ sound
  runs_pass = sound_passes count (list_of (together tss)) runs_sound

-- ---- the second, where at most one run has triangles
none_drawn : (tss : List (List Tri)) → drawn_runs tss ≤ 0 → together tss ≡ []
unfolding drawn_runs flat
none_drawn [] h = refl
none_drawn ([] ∷ tss) h = none_drawn tss h
none_drawn ((t ∷ ts) ∷ tss) h = absurd (omega arith)

one_joined : {lo hi : ℕ} {tss : List (List Tri)} → Runs lo hi tss → drawn_runs tss ≤ 1 → Joined (together tss)
unfolding drawn_runs flat
one_joined none h = tt
one_joined (run {ts = []} low own named join rest) h = one_joined rest h
one_joined (run {ts = t ∷ ts} {tss = tss} low own named join rest) h =
    let e : (t ∷ ts) ++ together tss ≡ t ∷ ts = ap (λ (us : List Tri). (t ∷ ts) ++ us) (none_drawn tss (omega arith)) ∙ append-nil (t ∷ ts) in
    subst Joined (sym e) join

-- ---- and where more have: the first triangle of the second run shares no vertex with one before
shared_apart : (lo mid hi : ℕ) (t u : Tri) → Own lo mid t → Own mid hi u → shared t u ≡ 0
unfolding shared
shared_apart lo mid hi t u o p =
    rw (own_none lo mid t u.a o p.in_a.0, own_none lo mid t u.b o p.in_b.0, own_none lo mid t u.c o p.in_c.0)

at_left : (ts us : List Tri) (k : ℕ) → k < length ts → triangle_at (list_of (ts ++ us)) k ≡ triangle_at (list_of ts) k
at_left [] us k h = absurd (omega arith)
at_left (t ∷ ts) us zero h = at_zero t (ts ++ us) ∙ sym (at_zero t ts)
at_left (t ∷ ts) us (suc k) h = at_suc t (ts ++ us) k ∙ at_left ts us k (omega arith) ∙ sym (at_suc t ts k)

at_seam : (ts : List Tri) (u : Tri) (us : List Tri) → triangle_at (list_of (ts ++ u ∷ us)) (length ts) ≡ u
at_seam [] u us = at_zero u us
at_seam (t ∷ ts) u us = at_suc t (ts ++ u ∷ us) (length ts) ∙ at_seam ts u us

module _ (lo mid hi : ℕ) (t : Tri) (ts : List Tri) (u : Tri) (us : List Tri) (own : AllOwn lo mid (t ∷ ts)) (join : Joined (t ∷ ts)) (next : Own mid hi u) where
  abbrev whole : List ℕ
  whole = list_of ((t ∷ ts) ++ u ∷ us)

  held : Clear (loose whole) (suc (length ts))
  held zero h = not_loose whole
  held (suc k) h =
      let w = joined_attached (t ∷ ts) join (suc k) (omega arith) (omega (arith, count_list (t ∷ ts))) in
      held_clear whole (suc k)
      (record { by = w.by; earlier = w.earlier; two = rw (at_left (t ∷ ts) (u ∷ us) w.by (omega (arith, w.earlier)), at_left (t ∷ ts) (u ∷ us) (suc k) h) w.two })

  alone : loose whole (suc (length ts)) ≡ true
  unfolding loose touches
  alone =
      rw (lt-ltb 0 (suc (length ts)) (omega arith))
      (ap not (some_clear (touches whole (suc (length ts))) (suc (length ts))
      (λ s h.
      let e : shared (triangle_at whole s) (triangle_at whole (suc (length ts))) ≡ 0 =
      rw (at_left (t ∷ ts) (u ∷ us) s h, at_seam (t ∷ ts) u us)
      (shared_apart lo mid hi (triangle_at (list_of (t ∷ ts)) s) u (own_at lo mid (t ∷ ts) own s h) next) in
      ne_eqb (shared (triangle_at whole s) (triangle_at whole (suc (length ts)))) 2 (λ z. omega arith))))

  second_loose : attached_of whole ≡ verdict not_attached (suc (length ts))
  second_loose =
      let n = count_list ((t ∷ ts) ++ u ∷ us) in
      let m = length-append (t ∷ ts) (u ∷ us) in
      let low : suc (length ts) < triangle_count whole = omega arith in
      sym (found not_attached (loose whole) (triangle_count whole) (suc (length ts)) sound (first_found (loose whole) (triangle_count whole) (suc (length ts)) low held alone) low)

drawn_some : (tss : List (List Tri)) → 1 ≤ drawn_runs tss → together tss ≡ [] → ⊥
unfolding drawn_runs flat
drawn_some [] h e = omega arith
drawn_some ([] ∷ tss) h e = drawn_some tss h e
drawn_some ((t ∷ ts) ∷ tss) h e = let z : suc (length (ts ++ together tss)) ≡ 0 = ap length e in omega arith

-- of the runs that follow, some has triangles
some_drawn : {lo hi : ℕ} {tss : List (List Tri)} → (lo' : ℕ) (t : Tri) (ts : List Tri) → AllOwn lo' lo (t ∷ ts) → Joined (t ∷ ts) → Runs lo hi tss → 1 ≤ drawn_runs tss
    → attached_of (list_of ((t ∷ ts) ++ together tss)) ≡ verdict not_attached (suc (length ts))
some_drawn {lo} {hi} {tss} lo' t ts own join runs h = go (together tss) refl (runs_own runs) where
  go : (us : List Tri) → together tss ≡ us → AllOwn lo hi us → attached_of (list_of ((t ∷ ts) ++ us)) ≡ verdict not_attached (suc (length ts))
  go [] e all = absurd (drawn_some tss h e)
  go (u ∷ us) e all = second_loose lo' lo hi t ts u us own join all.0

more_loose : {lo hi : ℕ} {tss : List (List Tri)} → Runs lo hi tss → 2 ≤ drawn_runs tss → attached_of (list_of (together tss)) ≡ verdict not_attached (first_drawn tss)
unfolding drawn_runs first_drawn flat
more_loose none h = absurd (omega arith)
more_loose (run {ts = []} low own named join rest) h = more_loose rest h
more_loose (run {lo = lo} {ts = t ∷ ts} low own named join rest) h = some_drawn lo t ts own join rest (omega arith)

module _ (count : ℕ) (tss : List (List Tri)) (runs : Runs 0 count tss) where
  pub one_attached : drawn_runs tss ≤ 1 → check_attached_of count (list_of (together tss)) ≡ sound
  one_attached h = attached_passes count (list_of (together tss)) (runs_sound count tss runs) (joined_attached (together tss) (one_joined runs h))

  pub more_apart : 2 ≤ drawn_runs tss → check_attached_of count (list_of (together tss)) ≡ verdict not_attached (first_drawn tss)
  more_apart h = after_sound count (list_of (together tss)) (runs_sound count tss runs) ∙ more_loose runs h
