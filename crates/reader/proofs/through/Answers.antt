-- `reader::through` meets its contract. Assumes nothing.
use Rattle.reader.proofs.Passing.{end_room}
use Rattle.reader.proofs.through.Goals as goal

pub pass-requires : goal.pass-requires
pass-requires c = end_room _ _ c.args.text.now _ _ c.set_out.ensures c.pass-p.ensures c.requires
