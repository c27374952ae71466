-- A list written over the start of another, and over it from some place on. The laws are in proofs/Laws.antt. Assumes nothing.
use Rattle.std.specs.Prelude.{ℕ, zero, suc, List, [], ◌∷◌, ◌++◌}

-- xs with its first elements replaced by vs, as far as it goes
unfoldable pub over : {A : Type 0} → List A → List A → List A
over [] xs = xs
over (v ∷ vs) [] = []
over (v ∷ vs) (x ∷ xs) = v ∷ over vs xs

-- the same from the place k on
unfoldable pub put_at : {A : Type 0} → ℕ → List A → List A → List A
put_at zero vs xs = over vs xs
put_at (suc k) vs [] = []
put_at (suc k) vs (x ∷ xs) = x ∷ put_at k vs xs

-- what the elements of a list are spelt by, in turn
unfoldable pub flat : {A B : Type 0} → (A → List B) → List A → List B
flat f [] = []
flat f (x ∷ xs) = f x ++ flat f xs
