-- `run::alone::put_empty_cap` meets its contract. Assumes nothing.
use mathlib.Core.Path.{sym, ◌∙◌}
use Rattle.run.proofs.Whole.{round_cap_fits, round_cap_lays, square_room, square_laid}
use Rattle.run.proofs.alone.put_empty_cap.Goals as goal

pub tessellate_empty_round_cap-requires-clause-fits : goal.tessellate_empty_round_cap-requires-clause-fits
tessellate_empty_round_cap-requires-clause-fits c =
    let round = sym c.rounds_caps.ensures ∙ c.if-rounds_caps.true in
    rw c.level_of.ensures (round_cap_fits c.args.o _ c.args.p round c.requires.fits)

pub returns-then-rounds_caps : goal.returns-then-rounds_caps
returns-then-rounds_caps c =
    let round = sym c.rounds_caps.ensures ∙ c.if-rounds_caps.true in
    round_cap_lays c.args.o _ c.args.p round _ _ (rw c.level_of.ensures at c.tessellate_empty_round_cap.ensures)

pub tessellate_empty_square_cap-requires : goal.tessellate_empty_square_cap-requires
tessellate_empty_square_cap-requires c =
    let square = sym c.rounds_caps.ensures ∙ c.if-rounds_caps.false in
    let room = square_room c.args.o _ c.args.p (rw square at c.requires.fits) in
    record { in_bounds = room.0; base_bound = (room.1, c.requires.id_lt_id_limit) }

pub returns-else-rounds_caps : goal.returns-else-rounds_caps
returns-else-rounds_caps c =
    let square = sym c.rounds_caps.ensures ∙ c.if-rounds_caps.false in
    let e = c.tessellate_empty_square_cap.ensures in
    rw square (λ w. square_laid c.args.o _ c.args.p _ _ _ e.v_after e.src_after e.t_after)
