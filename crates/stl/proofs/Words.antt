-- Four bytes make their word again, wherever it stands. Assumes nothing.
use Prim.Native.Nat.{ℕ, ◌+◌, ◌*◌, ◌/◌, ◌%◌, ◌<◌}
use mathlib.Core.Path.{◌≡◌, sym, ap, ◌∙◌, subst}
use mathlib.Core.List.{List, ◌++◌}
use native.Mathlib.Nat.{add_assoc}
use native.Mathlib.Omega.{arith}
use lib.ListN.{length, get_or}
use lib.Pow.{shr-shr}
use lib.Seq.{get_or-append-add}
use Rattle.stl.specs.Bytes.{word_at}

pub word_back : (n : ℕ) → n < 4294967296 → n % 256 + 256 * (n / 256 % 256) + 65536 * (n / 65536 % 256) + 16777216 * (n / 16777216 % 256) ≡ n
word_back n h =
    let a : n / 65536 ≡ n / 256 / 256 = sym (shr-shr n 8 8) in
    let b : n / 16777216 ≡ n / 256 / 256 / 256 = sym (ap (λ (x : ℕ). x / 256) (shr-shr n 8 8) ∙ shr-shr n 16 8) in
    rw (a, b) (nested n h)
  where
    nested : (n : ℕ) → n < 4294967296 → n % 256 + 256 * (n / 256 % 256) + 65536 * (n / 256 / 256 % 256) + 16777216 * (n / 256 / 256 / 256 % 256) ≡ n
    nested n h = omega arith

byte_behind : (p q : List ℕ) (i j : ℕ) → get_or (p ++ q) (length p + i + j) 0 ≡ get_or q (i + j) 0
byte_behind p q i j = ap (λ (k : ℕ). get_or (p ++ q) k 0) (add_assoc (length p) i j) ∙ get_or-append-add p q (i + j) 0

-- behind k bytes
pub word_behind : (p q : List ℕ) (k i : ℕ) → length p ≡ k → word_at (p ++ q) (k + i) ≡ word_at q i
unfolding word_at
word_behind p q k i e =
    subst (λ (k : ℕ). word_at (p ++ q) (k + i) ≡ word_at q i) e
    (rw (get_or-append-add p q i 0, byte_behind p q i 1, byte_behind p q i 2, byte_behind p q i 3))
