-- Demand 3 of a run's triangles from that of its strip's: count, own, named, attached. Assumes nothing.
use Prim.Native.Nat.{ℕ, ◌+◌, ◌-◌, ◌^◌, ◌≤◌, ◌<◌}
use mathlib.Core.Path.{◌≡◌, refl, ap, sym}
use mathlib.Core.List.{List, [], ◌∷◌, ◌++◌, append_assoc}
use mathlib.Core.Logic.{◌≢◌}
use native.Mathlib.Decide.{dec_lt}
use native.Mathlib.Omega.{arith}
use lib.ListN.{length, length-append}
use Rattle.triangles.specs.Facts.{In, AllOwn, Names, here, there, Chain, Linked}
use Rattle.triangles.specs.Tri.{Tri}
use Rattle.triangles.specs.Attached.{Has, first, later, Attached, Joined, Spans}
use Rattle.arc.specs.Arc.{arc_triangles}
use Rattle.braid.specs.Weave.{Item, one, arc, added, strip, woven, Held}
use Rattle.triangles.proofs.Having.{own_in, own_none, own_wider, own_append, own_has, names_left, names_right}
use Rattle.triangles.proofs.Attaching.{Sub, seen_after, sub_cons, sub_after, attached_append}
use Rattle.arc.proofs.Triangles.{pow_some, arc_count, arc_own, arc_named, arc_attached}

-- as many triangles more as vertices
pub woven_count : (i : ℕ) (ps : List Item) → length (woven i ps) ≡ length (strip ps) + added ps
unfolding woven strip added
woven_count i [] = refl
woven_count i (one t ∷ ps) = omega (arith, woven_count i ps)
woven_count i (arc k a b ∷ ps) =
    rw (length-append (arc_triangles k i a b) (woven (i + (2 ^ k - 1)) ps)) (omega (arith, arc_count k i a b, woven_count (i + (2 ^ k - 1)) ps))

-- an arc behind a triangle of the strip that has both of its ends
spans_in : (lo base a b : ℕ) (seen : List Tri) → AllOwn lo base seen → Spans a b seen → In lo base a × In lo base b
spans_in lo base a b seen o s =
    let w = own_has lo base s.on seen o s.has in
    (own_in lo base s.on a w s.has_a, own_in lo base s.on b w s.has_b)

held_own : (lo base hi k i a b : ℕ) (seen : List Tri) → AllOwn lo base seen → a ≢ b → Spans a b seen → base ≤ i → i + (2 ^ k - 1) ≤ hi → AllOwn lo hi (arc_triangles k i a b)
held_own lo base hi k i a b seen o d s f g =
    let w = spans_in lo base a b seen o s in
    arc_own lo hi k i a b d (w.0.0, omega (arith, w.0)) (w.1.0, omega (arith, w.1)) (omega (arith, pow_some k))

held_attached : (lo base k i a b : ℕ) (seen full : List Tri) → AllOwn lo base seen → a ≢ b → Spans a b seen → base ≤ i → Sub seen full → Attached full (arc_triangles k i a b)
held_attached lo base k i a b seen full o d s f g =
    let w = spans_in lo base a b seen o s in
    arc_attached full s.on k i a b (g s.on s.has) s.has_a s.has_b
    (own_none lo base s.on i (own_has lo base s.on seen o s.has) f) d (omega (arith, w.0)) (omega (arith, w.1))

-- each triangle names three different vertices of the run
pub woven_own : (lo base hi i : ℕ) (seen : List Tri) (ps : List Item) → AllOwn lo base seen → AllOwn lo base (strip ps) → Held seen ps → base ≤ i → i + added ps ≤ hi
    → AllOwn lo hi (woven i ps)
unfolding woven strip added
woven_own lo base hi i seen [] o r h f g = tt
woven_own lo base hi i seen (one t ∷ ps) o r h f g =
    (own_wider lo base hi t (omega arith) r.0, woven_own lo base hi i (t ∷ seen) ps (r.0, o) r.1 h f g)
woven_own lo base hi i seen (arc k a b ∷ ps) o r h f g =
    own_append lo hi (arc_triangles k i a b) (woven (i + (2 ^ k - 1)) ps)
    (held_own lo base hi k i a b seen o h.0.0 h.0.1 f (omega arith))
    (woven_own lo base hi (i + (2 ^ k - 1)) seen ps o r h.1 (omega arith) (omega arith))

-- what the strip names, the run names
strip_named : (x i : ℕ) (ps : List Item) → Names x (strip ps) → Names x (woven i ps)
unfolding woven strip
strip_named x i [] n = elim n [ ]
strip_named x i (one t ∷ ps) (here e) = here e
strip_named x i (one t ∷ ps) (there n) = there (strip_named x i ps n)
strip_named x i (arc k a b ∷ ps) n = names_right x (arc_triangles k i a b) (woven (i + (2 ^ k - 1)) ps) (strip_named x (i + (2 ^ k - 1)) ps n)

either : (x m : ℕ) (xs ys : List Tri) → (x < m → Names x xs) → (m ≤ x → Names x ys) → Names x (xs ++ ys)
either x m xs ys f g = go (dec_lt x m)
  where
    go : Dec (x < m) → Names x (xs ++ ys)
    go (yes h) = names_left x xs ys (f h)
    go (no h) = names_right x xs ys (g (omega arith))

-- and every vertex of an arc is named
added_named : (x i : ℕ) (ps : List Item) → i ≤ x → x < i + added ps → Names x (woven i ps)
unfolding woven added
added_named x i [] f g = absurd (omega arith)
added_named x i (one t ∷ ps) f g = there (added_named x i ps f g)
added_named x i (arc k a b ∷ ps) f g =
    either x (i + (2 ^ k - 1)) (arc_triangles k i a b) (woven (i + (2 ^ k - 1)) ps)
    (λ h. arc_named k i a b x f (omega (arith, pow_some k))) (λ h. added_named x (i + (2 ^ k - 1)) ps h (omega arith))

pub woven_named : (lo base : ℕ) (ps : List Item) → ((x : ℕ) → lo ≤ x → x < base → Names x (strip ps))
    → (x : ℕ) → lo ≤ x → x < base + added ps → Names x (woven base ps)
woven_named lo base ps s x f g = go (dec_lt x base)
  where
    go : Dec (x < base) → Names x (woven base ps)
    go (yes h) = strip_named x base ps (s x f h)
    go (no h) = added_named x base ps (omega arith) g

-- each triangle shares exactly two vertices with some earlier one: one of the strip with the strip's last, t
pub woven_attached : (lo base i : ℕ) (t : Tri) (seen full : List Tri) (ps : List Item) → Has t full → Sub seen full → AllOwn lo base seen → AllOwn lo base (strip ps)
    → Chain t (strip ps) → Held seen ps → base ≤ i → Attached full (woven i ps)
unfolding woven strip
woven_attached lo base i t seen full [] l s o r c h f = tt
woven_attached lo base i t seen full (one u ∷ ps) l s o r c h f = (
  record { with = t; has = l; two = c.0 },
  woven_attached lo base i u (u ∷ seen) (u ∷ full) ps (first refl) (sub_cons seen full u s) (r.0, o) r.1 c.1 h f,
)
woven_attached lo base i t seen full (arc k a b ∷ ps) l s o r c h f =
    let xs = arc_triangles k i a b in
    attached_append full xs (woven (i + (2 ^ k - 1)) ps) (held_attached lo base k i a b seen full o h.0.0 h.0.1 f s)
    (woven_attached lo base (i + (2 ^ k - 1)) t seen (seen_after full xs) ps (sub_after full xs t l) (λ u g. sub_after full xs u (s u g)) o r c h.1 (omega arith))

-- the whole run: nothing can come before the strip's first triangle
has_some : (u : Tri) (ts : List Tri) → Has u ts → 1 ≤ length ts
has_some u [] h = elim h [ ]
has_some u (t ∷ ts) (first e) = omega arith
has_some u (t ∷ ts) (later h) = omega arith

pub woven_joined : (lo base : ℕ) (ps : List Item) → AllOwn lo base (strip ps) → Linked (strip ps) → Held [] ps → Joined (woven base ps)
unfolding woven strip
woven_joined lo base [] r c h = tt
woven_joined lo base (one t ∷ ps) r c h =
    woven_attached lo base base t (t ∷ []) (t ∷ []) ps (first refl) (λ u g. g) (r.0, tt) r.1 c h (omega arith)
woven_joined lo base (arc k a b ∷ ps) r c h = absurd (omega (arith, has_some h.0.1.on [] h.0.1.has))

-- a run written piece by piece: the strip's cursor and the arcs'
pub woven_append : (i : ℕ) (ps qs : List Item) → woven i (ps ++ qs) ≡ woven i ps ++ woven (i + added ps) qs
unfolding woven added
woven_append i [] qs = let z : i + 0 ≡ i = omega arith in rw z
woven_append i (one t ∷ ps) qs = ap (λ (l : List Tri). t ∷ l) (woven_append i ps qs)
woven_append i (arc k a b ∷ ps) qs =
    let m = i + (2 ^ k - 1) in
    let z : i + ((2 ^ k - 1) + added ps) ≡ m + added ps = omega arith in
    rw (z, woven_append m ps qs) (sym (append_assoc (arc_triangles k i a b) (woven m ps) (woven (m + added ps) qs)))

-- a run that is not round: its strip alone
arc_none : (k i a b : ℕ) → 2 ^ k - 1 ≡ 0 → arc_triangles k i a b ≡ []
arc_none k i a b z = nil (arc_triangles k i a b) (omega (arith, arc_count k i a b))
  where
    nil : (ts : List Tri) → length ts ≡ 0 → ts ≡ []
    nil [] e = refl
    nil (t ∷ ts) e = absurd (omega arith)

pub woven_none : (i : ℕ) (ps : List Item) → added ps ≡ 0 → woven i ps ≡ strip ps
unfolding woven strip added
woven_none i [] z = refl
woven_none i (one t ∷ ps) z = ap (λ (l : List Tri). t ∷ l) (woven_none i ps z)
woven_none i (arc k a b ∷ ps) z =
    let y : 2 ^ k - 1 ≡ 0 = omega arith in
    let x : added ps ≡ 0 = omega arith in
    rw (arc_none k i a b y, y) (woven_none (i + 0) ps x)
