-- Demand 3's numbers of one run; what it says of its triangles is `Covers` of triangles. That both hold is in proofs/Facts.antt. Assumes nothing.
use Rattle.std.specs.Prelude.{ℕ, zero, suc, ◌+◌, ◌-◌, ◌*◌, ◌≡◌, Bool, cond}

-- "an open run of n at least 2 with d pair sides has 2n+d vertices and 2(n-1)+d triangles, a closed one 2n+d and 2n+d"; W-209: "Demand 3's counts grow by these", a of each
pub record Numbers (closed : Bool) (n d a v t : ℕ) : Type 0 where
  pub vertices : v ≡ 2 * n + d + a
  pub triangles : t ≡ cond closed (2 * n + d + a) (2 * (n - 1) + d + a)

-- rule 2: "n = 1: with Square, and a closed end or at least one line verb, the empty cap", of "four vertices, two triangles"; "otherwise nothing". W-209: "2^(k+2) vertices and two
-- triangles fewer"
pub record Alone (cap : Bool) (size v t : ℕ) : Type 0 where
  pub vertices : v ≡ cond cap size 0
  pub triangles : t ≡ cond cap (size - 2) 0

-- what a run has of which n points are kept: of none, of one, of at least two; size is an empty cap's, and a what arcs add
abbrev pub RunCounts : (closed cap : Bool) (size n d a v t : ℕ) → Type 0
RunCounts closed cap size zero d a v t = (v ≡ 0) × (t ≡ 0)
RunCounts closed cap size (suc zero) d a v t = Alone cap size v t
RunCounts closed cap size (suc (suc n)) d a v t = Numbers closed (suc (suc n)) d a v t
