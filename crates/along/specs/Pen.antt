-- What a pass does at the points of a run that it keeps, and what it is held to: points one after another, and the leg reached. Assumes nothing.
use Rattle.std.specs.Prelude.{◌≡◌, true, List, [], ◌++◌}
use Rattle.endpoint.specs.declared.Endpoint.{Endpoint}
use Rattle.pieces.specs.Piece.{Lists}
use Rattle.joints.specs.declared.leg.Leg.{Leg}
use Rattle.along.specs.Points.{walked}
use Rattle.along.specs.declared.Pass.{Pass}

-- w is how far a pass has come, k what it goes by, and leg the leg that it has reached
module _ {W K : Type 0} (leg : W → Leg) (needs : Pass → K → List Endpoint → W → Lists → Type 0) (does : Pass → K → List Endpoint → W → Lists → Lists → W → Type 0) where
  pub record PenLaws : Type 0 where
    pub none : (o : Pass) (k : K) (w : W) (l : Lists) → does o k [] w l l w
    pub front : (o : Pass) (k : K) (xs ys : List Endpoint) (w : W) (l : Lists) → needs o k (xs ++ ys) w l → needs o k xs w l
    pub back : (o : Pass) (k : K) (xs ys : List Endpoint) (w w1 : W) (l l1 : Lists) → needs o k (xs ++ ys) w l → does o k xs w l l1 w1 → needs o k ys w1 l1
    pub both : (o : Pass) (k : K) (xs ys : List Endpoint) (w w1 w2 : W) (l l1 l2 : Lists) → does o k xs w l l1 w1 → does o k ys w1 l1 l2 w2 → does o k (xs ++ ys) w l l2 w2
    pub reach : (o : Pass) (k : K) (xs : List Endpoint) (w w1 : W) (l l1 : Lists) → does o k xs w l l1 w1 → leg w1 ≡ walked true o.stroke (leg w) xs
