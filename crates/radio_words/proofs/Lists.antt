-- Words compared with the start of a list. Assumes nothing.
use Rattle.std.proofs.Common.{ℕ, ◌≡◌, refl, ap, List, [], ◌∷◌, eqb, ◌&&◌}
use Rattle.std.specs.List.{starts_with}
use Rattle.radio_words.specs.Words.{begins_with}

pub begins_is : (xs ys : List ℕ) → starts_with eqb ys xs ≡ begins_with xs ys
begins_is [] ys = refl
begins_is (x ∷ xs) [] = refl
begins_is (x ∷ xs) (y ∷ ys) = ap (λ t. eqb x y && t) (begins_is xs ys)
