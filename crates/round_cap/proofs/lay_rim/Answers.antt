-- `round_cap::lay_rim` meets its contract. Assumes nothing.
use Rattle.endpoint.specs.declared.Side.TheVariants.{Positive, Negative}
use Rattle.fans.proofs.Wefts.{weft_front, weft_back, weft_both}
use Rattle.round_cap.specs.Cap.{rim_of, half_weft, rim_weft}
use Rattle.round_cap.proofs.lay_rim.Goals as goal

pub lay_half-half-requires : goal.lay_half-half-requires
unfolding rim_weft
lay_half-half-requires c =
    let n = rim_of c.args.e c.args.h Negative in
    let p = rim_of c.args.e c.args.h Positive in
    let f = half_weft c.args.detail n p c.args.q.a c.args.q.b c.args.q.c in
    let g = half_weft c.args.detail p n c.args.q.c c.args.q.d c.args.q.a in
    rw (c.rim_of-positive.ensures, c.rim_of-negative.ensures) (weft_front f g c.requires.weft_fits)

pub lay_half-requires : goal.lay_half-requires
unfolding rim_weft
lay_half-requires c =
    let n = rim_of c.args.e c.args.h Negative in
    let p = rim_of c.args.e c.args.h Positive in
    let f = half_weft c.args.detail n p c.args.q.a c.args.q.b c.args.q.c in
    let g = half_weft c.args.detail p n c.args.q.c c.args.q.d c.args.q.a in
    let first = rw (c.rim_of-positive.ensures, c.rim_of-negative.ensures) at c.lay_half-half.ensures in
    rw (c.rim_of-positive.ensures, c.rim_of-negative.ensures) (weft_back f g first c.requires.weft_fits)

pub returns : goal.returns
unfolding rim_weft
returns c =
    let n = rim_of c.args.e c.args.h Negative in
    let p = rim_of c.args.e c.args.h Positive in
    let f = half_weft c.args.detail n p c.args.q.a c.args.q.b c.args.q.c in
    let g = half_weft c.args.detail p n c.args.q.c c.args.q.d c.args.q.a in
    let first = rw (c.rim_of-positive.ensures, c.rim_of-negative.ensures) at c.lay_half-half.ensures in
    let second = rw (c.rim_of-positive.ensures, c.rim_of-negative.ensures) at c.lay_half.ensures in
    weft_both f g first second
