-- Lines that are put one behind the other, each of 18 bytes at most: what the loop over them keeps. Assumes nothing.
use Prim.Native.Nat.{ℕ, ◌+◌, ◌*◌, ◌≤◌}
use mathlib.Core.Path.{◌≡◌, sym}
use mathlib.Core.List.{List}
use native.Mathlib.Numerals.{add-one}
use native.Mathlib.Omega.{arith}
use lib.ListN.{take-append-drop}
use Rattle.lists.specs.Over.{over}
use Rattle.lines.specs.Placed.{Puts}
use Rattle.lines.proofs.Behind.{puts_then}
use Rattle.page.specs.Page.{lines_to}

-- of n lines those of 0 to i - 1 are put, from the place k on
pub record Listing (line_of : ℕ → List ℕ) (n k : ℕ) (before : List ℕ) (i next : ℕ) (now : List ℕ) : Type 0 where
  pub within : i ≤ n
  pub short : next ≤ k + 18 * i
  pub puts : Puts (lines_to line_of i) k before next now

module _ {line_of : ℕ → List ℕ} {n k : ℕ} {before : List ℕ} where
  pub listing_starts : Listing line_of n k before 0 k before
  unfolding lines_to over
  listing_starts = record { within = omega arith; short = omega arith; puts = record { behind = omega arith; list = sym (take-append-drop k before) } }

  module _ {i next : ℕ} {now : List ℕ} (l : Listing line_of n k before i next now) where
    pub listing_goes : {j : ℕ} {after : List ℕ} → 1 + i ≤ n → Puts (line_of i) next now j after → j ≤ next + 18 → Listing line_of n k before (i + 1) j after
    unfolding lines_to
    listing_goes h p s = record { within = omega arith; short = omega (arith, l.short); puts = rw add-one (puts_then l.puts p) }

    pub listing_ends : n ≤ i → Puts (lines_to line_of n) k before next now
    listing_ends h = let e : i ≡ n = omega (arith, l.within) in rw e at l.puts
