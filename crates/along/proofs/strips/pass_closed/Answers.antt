-- `along::strips::pass_closed` meets its contract. Assumes nothing.
use Rattle.along.specs.Laws.{walk_laws}
use Rattle.along.proofs.Writing.{closed_has, closed_puts}
use Rattle.along.proofs.strips.pass_closed.Goals as goal

pub pass_behind-w-requires : goal.pass_behind-w-requires
pass_behind-w-requires c =
    walk_laws.front c.args.pass tt _ _ _ _ (closed_has c.args.pass _ _ _ c.first_leg-leg.ensures c.start.ensures c.requires)

pub go_round-requires : goal.go_round-requires
go_round-requires c =
    walk_laws.back c.args.pass tt _ _ _ _ _ _ (closed_has c.args.pass _ _ _ c.first_leg-leg.ensures c.start.ensures c.requires) c.pass_behind-w.ensures

pub returns : goal.returns
returns c =
    closed_puts c.args.pass _ _ _ c.first_leg-leg.ensures c.start.ensures (walk_laws.both c.args.pass tt _ _ _ _ _ _ _ _ c.pass_behind-w.ensures c.go_round.ensures)
