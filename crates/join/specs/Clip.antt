-- Rule 6: "u is the normal over its length and c = limit*h. The first offset a moves by d*((c - a.u)/(d.u)), where d is (-a.y, a.x) divided
-- by its length; the second likewise with its own. Where that length is zero, or d.u is below 2^-10 in size, it does not move." And document 02's W-208: where the
-- normal is zero, "MiterClip takes the incoming side direction for u". Assumes nothing.
use Rattle.std.specs.Prelude.{Bool, ◌&&◌, ◌||◌, Float}
use Rattle.std.specs.Float.Ieee.{eq}
use Rattle.plane.specs.F32.{◌⊖◌, ◌⊘◌, f32, size_below}
use Rattle.plane.specs.Normal.{pick}
use Rattle.plane.specs.Vector.{plus_of, times_of, divided_of, turned_of, dot_of, length_of, normalize_of}
use Rattle.plane.specs.declared.vector.Point.{Point}
use Rattle.join.specs.declared.clip.Clipped.{Clipped}
use Rattle.join.specs.declared.clip.SideLine.{SideLine}

-- a normal that is zero in both components, +0 or -0: the side runs back along itself
unfoldable pub zero_of : Point → Bool
zero_of normal = eq normal.x (f32 0) && eq normal.y (f32 0)

-- u, of the side's incoming direction and its normal
unfoldable pub cut_of : Point → Point → Point
cut_of v0 normal = pick (zero_of normal) v0 (normalize_of normal)

-- "d is (-a.y, a.x) divided by its length"
unfoldable pub side_line_of : Point → SideLine
side_line_of a = let side = turned_of a in record { length = length_of side; d = divided_of side (length_of side) }

unfoldable pub unmoved_of : Float → Float → Bool
unmoved_of length along = eq length (f32 0) || size_below along (f32 0x3a800000)

unfoldable pub moved_of : Point → SideLine → Point → Float → Point
moved_of a line u c =
    let along = dot_of line.d u in
    pick (unmoved_of line.length along) a (plus_of a (times_of line.d ((c ⊖ dot_of a u) ⊘ along)))

unfoldable pub clipped_of : Point → Point → Point → Float → Clipped
clipped_of prev next u c = record { prev = moved_of prev (side_line_of prev) u c; next = moved_of next (side_line_of next) u c }
