-- What document 01's program prints of a path text: its page, byte by byte. Assumes nothing.
use Prim.Native.Char.{code}
use Rattle.std.specs.Prelude.{ℕ, zero, suc, ◌+◌, ◌*◌, ◌≤◌, ◌<◌, ◌≡◌, cond, List, [], ◌∷◌, ◌++◌, eqb, Float, length, take, get_or, replicate}
use Prim.Native.String.{String, [] as none, ◌∷◌ as ◌then◌}
use Rattle.std.specs.Float.{nan, binary32}
use Rattle.std.specs.Float.Ieee.{of_bits}
use Rattle.refusals.specs.Numbers.{number_of, accepted, long_text}
use Rattle.lists.specs.Over.{over}
use Rattle.lines.specs.Digits.{decimal_of}
use Rattle.lines.specs.Floats.{float_hex}
use Rattle.options.specs.declared.Options.{Options}
use Rattle.reader.specs.Outcome as reader
use Rattle.reader.specs.Reads.{Reads}
use Rattle.pieces.specs.Piece.{lent}
use Rattle.mesh.specs.Mesh as mesh

-- "width 2, limit 4, Miter, Butt"; its merge range is document 01's 1/128
abbrev pub options_of : Options
options_of = record { width = of_bits binary32 0x40000000; miter_limit = of_bits binary32 0x40800000; line_join = 0; cap = 0; merge_range = of_bits binary32 0x3c000000; detail = 0; offset = of_bits binary32 0 }

-- "the program keeps its buffers and gives 8 above 16,384 bytes" (W-205)
abbrev pub text_room : ℕ
text_room = 16384

-- "room for 1,024 verbs, 2,048 coordinates, 1,024 vertices and 1,536 triangles": five floats and a record to a vertex, three numbers to a triangle, all zero
abbrev pub verb_room : List ℕ
verb_room = replicate 1024 0

abbrev pub coord_room : List Float
coord_room = replicate 2048 (of_bits binary32 0)

abbrev pub vertex_room : List Float
vertex_room = replicate (5 * 1024) (of_bits binary32 0)

abbrev pub source_room : List ℕ
source_room = replicate 1024 0

abbrev pub triangle_room : List ℕ
triangle_room = replicate (3 * 1536) 0

-- ---- lines
-- words with a space between them, "each line ended by a line feed"
abbrev pub line : List ℕ → List (List ℕ) → List ℕ
line word [] = word ++ (10 ∷ [])
line word (next ∷ rest) = word ++ (32 ∷ line next rest)

abbrev pub bytes : String → List ℕ
bytes none = []
bytes (c then s) = code c ∷ bytes s

-- "x and y bits in uppercase hex", of vertex i: the first two of its five floats
abbrev pub vertex_line : List Float → ℕ → List ℕ
vertex_line vs i = line (float_hex (get_or vs (5 * i) nan)) (float_hex (get_or vs (5 * i + 1) nan) ∷ [])

-- five digits hold each number of a triangle list: the program's have fewer vertices
abbrev pub AreShort : List ℕ → Type 0
AreShort ts = (i : ℕ) → get_or ts i 0 < 65536

-- the three numbers of triangle i
abbrev pub triangle_line : List ℕ → ℕ → List ℕ
triangle_line ts i = line (decimal_of (get_or ts (3 * i) 0)) (decimal_of (get_or ts (3 * i + 1) 0) ∷ decimal_of (get_or ts (3 * i + 2) 0) ∷ [])

-- those of 0 to n - 1
unfoldable pub lines_to : (ℕ → List ℕ) → ℕ → List ℕ
lines_to line_of zero = []
lines_to line_of (suc n) = lines_to line_of n ++ line_of n

-- ---- pages
-- "v N", the vertices, "t N", the triangles
unfoldable pub mesh_page : ℕ → ℕ → List Float → List ℕ → List ℕ
mesh_page n m vs ts = line (bytes "v") (decimal_of n ∷ []) ++ (lines_to (vertex_line vs) n ++ (line (bytes "t") (decimal_of m ∷ []) ++ lines_to (triangle_line ts) m))

-- "A refusal prints `refused`, a space, its number, a space, its place."
abbrev pub refused_page : ℕ → ℕ → List ℕ
refused_page number place = line (bytes "refused") (decimal_of number ∷ decimal_of place ∷ [])

-- of what the mesh call answered and left in its lists
unfoldable pub mesh_page_of : mesh.Outcome → List ℕ
mesh_page_of o =
    let a = o.answer in
    cond (eqb a.number (number_of accepted)) (mesh_page a.vertices a.triangles o.lists.vertices o.lists.triangles) (refused_page a.number a.place)

-- of what the reader answered and left in its lists: its path is stroked
unfoldable pub read_page_of : reader.Outcome → List ℕ
read_page_of o =
    let a = o.answer in
    cond (eqb a.number (number_of accepted)) (mesh_page_of (mesh.outcome_of (take a.verbs o.verbs) (take a.coords o.coords) options_of [] (lent vertex_room source_room triangle_room)))
    (refused_page a.number a.place)

-- The page of the bytes s. The reader allows one outcome, so there is one page: `one_page` of proofs/Unique.antt.
pub data Prints (s : List ℕ) : List ℕ → Type 0 where
  too_long : text_room < length s → Prints s (refused_page (number_of long_text) 0)
  read_text : (o : reader.Outcome) → length s ≤ text_room → Reads s verb_room coord_room o → Prints s (read_page_of o)

-- the page of s is put over the start of a list, and n is its length
pub record PutsPage (s before : List ℕ) (n : ℕ) (after : List ℕ) : Type 0 where
  pub page : List ℕ
  pub prints : Prints s page
  pub long : n ≡ length page
  pub list : after ≡ over page before
