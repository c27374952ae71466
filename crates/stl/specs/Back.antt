-- "Reading after writing gives back each triangle's corners bit for bit, in order." That it holds is proofs/Back.antt. Assumes nothing.
use Rattle.std.specs.Prelude.{ℕ, ◌+◌, ◌*◌, ◌≤◌, ◌<◌, ◌≡◌, List, T, Float, length, get_or, take}
use Rattle.std.specs.Float.{nan, binary32}
use Rattle.std.specs.Float.Ieee.{fits}
use Rattle.refusals.specs.Numbers.{number_of, list_room}
use Rattle.lists.specs.Over.{over, flat}
use Rattle.stl.specs.Answer.{with_count}
use Rattle.stl.specs.File.{size_of, file_bytes, facets_in, corners_of}
use Rattle.stl.specs.Read.{read_of, unread}
use Rattle.stl.specs.Write.{facets_of, write_of}
use Rattle.stl.specs.declared.facet.Facet.{Facet}

-- a list whose floats are f32 values; of its vertices x and y alone are asked for
abbrev pub Held : List Float → Type 0
Held v = (i : ℕ) → T (fits binary32 (get_or v i nan))

abbrev pub PlacesHeld : List Float → Type 0
PlacesHeld v = (i : ℕ) → T (fits binary32 (get_or v (5 * i) nan)) × T (fits binary32 (get_or v (5 * i + 1) nan))

-- a file of these triangles: so long, and read as they are, in whatever list, or refused for want of room alone
pub record ReadsBack (fs : List Facet) (file : List ℕ) : Type 0 where
  pub size : length file ≡ size_of (length fs)
  pub facets : facets_in file ≡ fs
  pub enough : (c : List Float) → 6 * length fs ≤ length c → read_of file c ≡ record { answer = with_count (6 * length fs); corners = over (flat corners_of fs) c }
  pub few : (c : List Float) → length c < 6 * length fs → read_of file c ≡ unread c (number_of list_room) 0

-- the bytes that writing counts
abbrev pub written : List Float → List ℕ → List ℕ → List ℕ
written v t b = take (write_of v t b).answer.count (write_of v t b).bytes

pub record Returns (v : List Float) (t b : List ℕ) : Type 0 where
  pub file : written v t b ≡ file_bytes (facets_of v t)
  pub back : ReadsBack (facets_of v t) (written v t b)
