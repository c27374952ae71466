-- `dashed::draw_line` meets its contract. Assumes nothing.
use mathlib.Core.Bool.{false, ◌||◌}
use mathlib.Core.Path.{◌≡◌}
use Rattle.woven.proofs.Runs.{strip_fits, arcs_fit}
use Rattle.dashed.proofs.Following.{fits_numbered}
use Rattle.dashed.proofs.Drawing.{line_plain, line_round}
use Rattle.dashed.proofs.draw_line.Goals.{then-r, else-r}
use Rattle.dashed.proofs.draw_line.Goals as goal

pub strip_dash-s-requires : goal.strip_dash-s-requires
strip_dash-s-requires c =
    record { dash_fits = c.requires.dash_fits; strip_fits = strip_fits false c.args.pass.stroke c.args.r c.args.base _ c.requires.fits (fits_numbered c.requires.dash_fits) }

pub weave_behind-place-requires : goal.weave_behind-place-requires
weave_behind-place-requires c =
    record { dash_fits = c.requires.dash_fits; woven_fits = arcs_fit false c.args.pass.stroke c.args.r c.args.base _ c.requires.fits (fits_numbered c.requires.dash_fits) c.strip_dash-s.ensures.strip c.requires.detail_bound }

pub returns-then-r-2 : goal.returns-then-r-2
returns-then-r-2 c =
    line_round c.args.pass c.args.r _ _ _ c.args.d c.requires.dash_fits c.strip_dash-s.ensures c.requires.fits c.weave_behind-place.ensures

pub returns-else-r-2 : goal.returns-else-r-2
returns-else-r-2 c =
    let plain : (c.args.r.joins || c.args.r.caps) ≡ false = elim c.if-r.branch [ then-r w ↦ rw w.if-r.true (cc) | else-r w ↦ rw w.if-r.false (cc) ] in
    line_plain c.args.pass c.args.r _ _ _ c.args.d c.requires.dash_fits c.strip_dash-s.ensures plain
