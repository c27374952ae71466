-- `path::check_path` meets its contract. Assumes nothing.
use native.Mathlib.Omega.{arith}
use Rattle.path.proofs.Judging.{count_few, says_many, says_misplaced, says_inside, says_uneven, says_large, says_accepted}
use Rattle.path.proofs.check_path.Goals.{then-scan-verbs-via-then-scan-verbs, then-scan-verbs-via-else-scan-verbs+then-scan, then-scan-verbs-via-else-scan-verbs+else-scan+then-coords-scan}
use Rattle.path.proofs.check_path.Goals as goal

pub returns-then-verbs-gt-VERB_LIMIT : goal.returns-then-verbs-gt-VERB_LIMIT
returns-then-verbs-gt-VERB_LIMIT c = says_many _ _ c.if-verbs-gt-VERB_LIMIT.true

pub returns-then-scan-verbs : goal.returns-then-scan-verbs
returns-then-scan-verbs c =
    let few = c.if-verbs-gt-VERB_LIMIT.false in
    let e = c.scan_verbs-scan.ensures in
    elim c.then-scan-verbs.branch [
      | then-scan-verbs-via-then-scan-verbs w ↦ says_misplaced _ _ few _ e w.if-scan-verbs.true
      | then-scan-verbs-via-else-scan-verbs+then-scan w ↦ says_inside _ _ few _ e w.if-scan-verbs.false w.if-scan.true
      | then-scan-verbs-via-else-scan-verbs+else-scan+then-coords-scan w ↦ says_uneven _ _ few _ e w.if-scan-verbs.false w.if-scan.false w.if-coords-scan.true
    ]

pub overflow_mul-scan : goal.overflow_mul-scan
overflow_mul-scan c =
    omega (arith, count_few _ c.if-verbs-gt-VERB_LIMIT.false _ c.scan_verbs-scan.ensures c.if-scan-verbs.false)

pub returns-in-Some : goal.returns-in-Some
returns-in-Some c =
    let outside = c.in-Some.ensures in
    says_large _ _ c.if-verbs-gt-VERB_LIMIT.false _ c.scan_verbs-scan.ensures c.if-scan-verbs.false c.if-scan.false c.if-coords-scan.false _ outside.0 outside.1

pub returns : goal.returns
returns c =
    says_accepted _ _ c.if-verbs-gt-VERB_LIMIT.false _ c.scan_verbs-scan.ensures c.if-scan-verbs.false c.if-scan.false c.if-coords-scan.false
    c.in_default.ensures
