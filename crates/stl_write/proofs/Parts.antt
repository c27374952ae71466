-- The parts of a file: how long each is, and that one behind the other they are the whole. Assumes nothing.
use Prim.Native.Nat.{ℕ}
use mathlib.Core.Path.{◌≡◌, refl}
use mathlib.Core.List.{List, ◌++◌}
use lib.Ieee.{binary32, to_bits}
use lib.ListN.{length}
use Rattle.lists.specs.Over.{flat}
use Rattle.plane.specs.declared.vector.Point.{Point}
use Rattle.stl.specs.Bytes.{zeros, le32}
use Rattle.stl.specs.File.{corner_bytes, facet_bytes, file_bytes}
use Rattle.stl.specs.declared.facet.Facet.{Facet}

pub length_word : (n : ℕ) → length (le32 n) ≡ 4
unfolding le32
length_word n = refl

pub length_two : (m n : ℕ) → length (le32 m ++ le32 n) ≡ 8
unfolding le32
length_two m n = refl

pub length_head : (n : ℕ) → length (zeros 80 ++ le32 n) ≡ 84
unfolding le32
length_head n = refl

pub length_24 : (a : Point) → length (zeros 12 ++ corner_bytes a) ≡ 24
unfolding corner_bytes le32
length_24 a = refl

pub length_36 : (a b : Point) → length ((zeros 12 ++ corner_bytes a) ++ corner_bytes b) ≡ 36
unfolding corner_bytes le32
length_36 a b = refl

pub length_48 : (a b c : Point) → length (((zeros 12 ++ corner_bytes a) ++ corner_bytes b) ++ corner_bytes c) ≡ 48
unfolding corner_bytes le32
length_48 a b c = refl

-- ---- as they are put, one behind the other
pub corner_parts : (p : Point) → corner_bytes p ≡ (le32 (to_bits binary32 p.x) ++ le32 (to_bits binary32 p.y)) ++ zeros 4
unfolding corner_bytes le32
corner_parts p = refl

pub facet_parts : (f : Facet) → facet_bytes f ≡ (((zeros 12 ++ corner_bytes f.a) ++ corner_bytes f.b) ++ corner_bytes f.c) ++ zeros 2
unfolding facet_bytes corner_bytes le32
facet_parts f = refl

pub file_parts : (fs : List Facet) (n : ℕ) → length fs ≡ n → file_bytes fs ≡ (zeros 80 ++ le32 n) ++ flat facet_bytes fs
unfolding file_bytes le32
file_parts fs n e = rw (← e)
