-- Closed examples, computed by the checker over `last_three`, `last_replaced` and `got_of`: one statement over one list. Assumes nothing.
use mathlib.Core.Path.{◌≡◌, refl}
use mathlib.Core.List.{List, [], ◌∷◌, ◌++◌, map}
use Prim.Native.Nat.{ℕ}
use Rattle.plane.specs.F32.{f32}
use Rattle.plane.specs.Vector.{point}
use Rattle.endpoint.specs.Endpoint.{blank_of}
use Rattle.endpoint.specs.declared.EndpointData.{EndpointData}
use Rattle.window.specs.Answer.{get_answer_of, got_of}
use Rattle.window.specs.Window.{last_three, last_replaced}
use Rattle.window.specs.declared.answer.GetAnswer.{GetAnswer}
use Rattle.std.proofs.Common.{Some, None}

-- the endpoint k: at (k, 0), with advancement k and the number k, otherwise blank; x is the pattern of k
abbrev endpoint : ℕ → ℕ → EndpointData
endpoint k x = record {
  position = point (f32 x) (f32 0);
  half_width = blank_of.half_width;
  advancement = f32 x;
  line_join = blank_of.line_join;
  id = record { 0 = k };
  positive = blank_of.positive;
  negative = blank_of.negative;
  fold_positive = blank_of.fold_positive;
  fold_negative = blank_of.fold_negative;
  inner_join = blank_of.inner_join;
}

abbrev e1 : EndpointData
e1 = endpoint 1 0x3f800000

abbrev e2 : EndpointData
e2 = endpoint 2 0x40000000

abbrev e3 : EndpointData
e3 = endpoint 3 0x40400000

abbrev e4 : EndpointData
e4 = endpoint 4 0x40800000

abbrev e5 : EndpointData
e5 = endpoint 5 0x40a00000

abbrev e9 : EndpointData
e9 = endpoint 9 0x41100000

pub data Call : Type 0 where
  push : EndpointData → Call
  replace_last : EndpointData → Call
  clear : Call

-- what a window that holds xs holds after the calls
pub after : List EndpointData → List Call → List EndpointData
after xs [] = xs
after xs (push e ∷ cs) = after (last_three (xs ++ (e ∷ []))) cs
after xs (replace_last e ∷ cs) = after (last_replaced xs e) cs
after xs (clear ∷ cs) = after [] cs

-- the calls on a new window, and what `get` then answers at 0 to 3
pub record Case : Type 0 where
  pub calls : List Call
  pub answers : List GetAnswer

abbrev found : EndpointData → GetAnswer
found e = get_answer_of (Some e)

abbrev refused : GetAnswer
refused = get_answer_of None

pub read : List EndpointData → List GetAnswer
read xs = map (got_of xs) (0 ∷ 1 ∷ 2 ∷ 3 ∷ [])

pub cases : List Case
cases =
    -- P5: after pushes 1 to 5 the window reads 3, 4, 5; after replacing the last by 9 it reads 3, 4, 9
    record { calls = push e1 ∷ push e2 ∷ push e3 ∷ push e4 ∷ push e5 ∷ []; answers = found e3 ∷ found e4 ∷ found e5 ∷ refused ∷ [] }
    ∷ record { calls = push e1 ∷ push e2 ∷ push e3 ∷ push e4 ∷ push e5 ∷ replace_last e9 ∷ []; answers = found e3 ∷ found e4 ∷ found e9 ∷ refused ∷ [] }
    -- a new window is empty, and replacing the last leaves it so; a window that is not full; a window filled, cleared and begun again
    ∷ record { calls = replace_last e9 ∷ []; answers = refused ∷ refused ∷ refused ∷ refused ∷ [] }
    ∷ record { calls = push e1 ∷ push e2 ∷ replace_last e9 ∷ []; answers = found e1 ∷ found e9 ∷ refused ∷ refused ∷ [] }
    ∷ record { calls = push e1 ∷ push e2 ∷ push e3 ∷ push e4 ∷ clear ∷ push e5 ∷ []; answers = found e5 ∷ refused ∷ refused ∷ refused ∷ [] }
    ∷ []

pub worked : map (λ (c : Case). read (after [] c.calls)) cases ≡ map (λ (c : Case). c.answers) cases
unfolding cases read after last_three last_replaced got_of
worked = refl
