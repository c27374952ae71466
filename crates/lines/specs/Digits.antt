-- Digits in any base up to 16, the number that they spell, and the digits that spell a number. Assumes nothing.
use Rattle.std.specs.Prelude.{ℕ, zero, suc, ◌+◌, ◌-◌, ◌*◌, ◌/◌, ◌%◌, Bool, true, ◌&&◌, cond, List, [], ◌∷◌, ◌++◌, leb, ltb}

-- a ≤ b ≤ c
abbrev pub within : ℕ → ℕ → ℕ → Bool
within a b c = leb a b && leb b c

-- what a byte is worth as a digit: `0` to `9`, then `A` to `F`; 16 where it is none
unfoldable pub digit_of : ℕ → ℕ
digit_of b = cond (within 48 b 57) (b - 48) (cond (within 65 b 70) (b - 65 + 10) 16)

-- every byte of a word is a digit of the base
unfoldable pub are_digits : ℕ → List ℕ → Bool
are_digits base [] = true
are_digits base (b ∷ w) = ltb (digit_of b) base && are_digits base w

-- the number that a word of digits spells, the highest first, behind digits that spell n
unfoldable pub spelt : ℕ → ℕ → List ℕ → ℕ
spelt base n [] = n
spelt base n (b ∷ w) = spelt base (n * base + digit_of b) w

-- the byte of a digit below 16
unfoldable pub glyph_of : ℕ → ℕ
glyph_of d = cond (ltb d 10) (48 + d) (65 + (d - 10))

-- the last k digits of n in a base, the highest first
unfoldable pub digits_of : ℕ → ℕ → ℕ → List ℕ
digits_of base zero n = []
digits_of base (suc k) n = digits_of base k (n / base) ++ (glyph_of (n % base) ∷ [])

-- how many decimal digits an n of at most suc k of them has: 1 for 0
unfoldable pub places_up_to : ℕ → ℕ → ℕ
places_up_to zero n = 1
places_up_to (suc k) n = cond (ltb n 10) 1 (suc (places_up_to k (n / 10)))

-- n below 10 ^ 20 in decimal, with no zero in front but for 0 itself
unfoldable pub decimal_of : ℕ → List ℕ
decimal_of n = digits_of 10 (places_up_to 19 n) n

-- the last k hex digits of n
abbrev pub hex_of : ℕ → ℕ → List ℕ
hex_of k n = digits_of 16 k n
