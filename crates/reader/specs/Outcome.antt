-- An outcome of the reader: its answer in document 01's numbers, and both lists whole after the call. Assumes nothing.
use Rattle.std.specs.Prelude.{ℕ, List, Float}
use Rattle.lists.specs.Over.{over}
use Rattle.reader.specs.declared.answer.ReadAnswer.{ReadAnswer}

pub record Outcome : Type 0 where
  pub answer : ReadAnswer
  pub verbs : List ℕ
  pub coords : List Float

-- the lists that are lent
module _ (v : List ℕ) (c : List Float) where
  -- "A refusal leaves all lent lists .. as before the call."
  abbrev pub refused : ReadAnswer → Outcome
  refused a = record { answer = a; verbs = v; coords = c }

  -- "After 0, list places beyond those counted keep their contents."
  abbrev pub written : ReadAnswer → List ℕ → List Float → Outcome
  written a vs cs = record { answer = a; verbs = over vs v; coords = over cs c }
