-- What a window holds, and how each call alters that. Assumes nothing.
use Rattle.std.specs.Prelude.{ℕ, ◌-◌, ◌%◌, min, ◌≡◌, List, [], ◌∷◌, ◌++◌, length, take, drop}
use Rattle.endpoint.specs.declared.EndpointData.{EndpointData}
use Rattle.window.specs.Answer.{change_answer_of, replaced_answer_of}
use Rattle.window.specs.declared.buffer.PointBuffer.{PointBuffer}
use Rattle.window.specs.declared.buffer.Replaced.{Replaced}

-- the slots p in their turn, beginning at slot s
abbrev pub rotated : {A : Type 0} → List A → ℕ → List A
rotated p s = drop s p ++ take s p

-- the first `count` of these, where a count above three means three
unfoldable pub held : {A : Type 0} → List A → ℕ → ℕ → List A
held p start count = take (min count 3) (rotated p (start % 3))

-- what a window holds, oldest first
abbrev pub items : PointBuffer → List EndpointData
items w = held w.points w.start w.count

-- "the last three endpoints"
unfoldable pub last_three : {A : Type 0} → List A → List A
last_three xs = drop (length xs - 3) xs

-- the last one replaced by e; where there is none, none
unfoldable pub last_replaced : {A : Type 0} → List A → A → List A
last_replaced [] e = []
last_replaced (x ∷ []) e = e ∷ []
last_replaced (x ∷ y ∷ ys) e = x ∷ last_replaced (y ∷ ys) e

-- r is the answer to replacing the last of w by e, with the window after it. "A refusal leaves .. the window as before the call."
pub record ReplacesLast (w : PointBuffer) (e : EndpointData) (r : Replaced) : Type 0 where
  pub answer : change_answer_of r.change ≡ replaced_answer_of (items w)
  pub after : items r.window ≡ last_replaced (items w) e
  pub untouched : items w ≡ [] → r.window ≡ w
