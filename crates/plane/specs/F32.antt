-- The operations of f32, each rounded to the nearest, and how a float is written by its pattern. Assumes nothing.
use Rattle.std.specs.Prelude.{ℕ, Bool, ◌&&◌, Float}
use Rattle.std.specs.Float.{binary32}
use Rattle.std.specs.Float.Ieee.{add, sub, mul, div, neg, lt, le, of_bits}

infixl 20 ◌⊕◌
infixl 20 ◌⊖◌
infixl 30 ◌⊗◌
infixl 30 ◌⊘◌
abbrev pub ◌⊕◌ : Float → Float → Float
x ⊕ y = add binary32 x y

abbrev pub ◌⊖◌ : Float → Float → Float
x ⊖ y = sub binary32 x y

abbrev pub ◌⊗◌ : Float → Float → Float
x ⊗ y = mul binary32 x y

abbrev pub ◌⊘◌ : Float → Float → Float
x ⊘ y = div binary32 x y

-- the float with the pattern b
abbrev pub f32 : ℕ → Float
f32 b = of_bits binary32 b

-- x is above zero; it is zero or above
abbrev pub above : Float → Bool
above x = lt (f32 0) x

abbrev pub not_below : Float → Bool
not_below x = le (f32 0) x

-- the size of x is below b; it is at most b
abbrev pub size_below : Float → Float → Bool
size_below x b = lt (neg b) x && lt x b

abbrev pub size_at_most : Float → Float → Bool
size_at_most x b = le (neg b) x && le x b
