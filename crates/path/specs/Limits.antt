-- How long the lists of an accepted path are. Assumes nothing.
use Rattle.std.specs.Prelude.{ℕ, ◌*◌, ◌^◌}

-- "Raise 4,096 verbs to 65,536" (W-205)
abbrev pub verb_limit : ℕ
verb_limit = 65536

-- "a list of coordinates, two to each begin or line"
abbrev pub coord_limit : ℕ
coord_limit = 2 * verb_limit

-- the most vertices, and the most triangles, that a point brings where arcs are so many levels deep, none where nothing is round (run's `run_few`)
abbrev pub most_to_point : ℕ → ℕ
most_to_point level = 4 * 2 ^ level

-- "an arc detail k from 0 to 6" (W-209)
abbrev pub level_limit : ℕ
level_limit = 6

-- the most points that the runs of a path have: its own and, where they are cut (W-213), one more to each run, and the cuts; none of the three are more than the verb limit
abbrev pub drawn_limit : ℕ
drawn_limit = 3 * verb_limit

-- "State the counts' bounds once over the verb limit" (W-205): the most of either that a mesh has (mesh's `counts_limited`)
abbrev pub count_limit : ℕ
count_limit = most_to_point level_limit * drawn_limit
