-- `lines::byte_lists::put_pairs` meets its contract. The loop's invariant is `Pairing`. Assumes nothing.
use native.Mathlib.Omega.{arith}
use mathlib.Core.Path.{◌≡◌, sym, ◌∙◌}
use lib.ListN.{get_or}
use Rattle.lines.specs.Bytes.{pairs_of}
use Rattle.lines.proofs.Pairs.{pair_spelt, pair_byte, pairing_starts, pairing_goes, pairing_ends}
use Rattle.lines.proofs.byte_lists.put_pairs.Goals as goal

pub loop-i-init : goal.loop-i-init
loop-i-init c = pairing_starts c.args.word.now c.args.list.now

pub unwrap-requires : goal.unwrap-requires
unwrap-requires c = rw (c.spelt.ensures, pair_spelt c.args.word.now c.loop-i.i c.requires.0 c.loop-i-test.true)

-- what was spelt is the byte of the pair
byte : (c : goal.After-unwrap) → c.unwrap.result ≡ get_or (pairs_of c.args.word.now) c.loop-i.i 0
byte c = let e = sym c.unwrap.ensures ∙ c.spelt.ensures ∙ pair_spelt c.args.word.now c.loop-i.i c.requires.0 c.loop-i-test.true in cc

pub overflow_cast-list : goal.overflow_cast-list
overflow_cast-list c = omega (arith, byte c, pair_byte c.args.word.now c.loop-i.i c.requires.0 c.loop-i-test.true)

pub loop-i-preserved : goal.loop-i-preserved
loop-i-preserved c = pairing_goes c.loop-i.invariant c.unwrap.result c.loop-i-test.true (omega arith) (byte c)

pub returns : goal.returns
returns c = pairing_ends c.loop-i.invariant c.loop-i-test.false
