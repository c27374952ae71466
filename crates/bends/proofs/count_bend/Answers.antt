-- `bends::count_bend` meets its contract. Assumes nothing.
use native.Mathlib.Omega.{arith}
use Rattle.bends.proofs.Sizes.{bend_few, more_faces}
use Rattle.bends.proofs.count_bend.Goals as goal

pub overflow_add-result : goal.overflow_add-result
overflow_add-result c = let f = c.requires in let m = more_faces _ _ _ _ f in let n = bend_few c.args.r c.args.w.due c.args.b f.shallow in omega (arith, c.bend_size-n.ensures, f.vertices)

pub overflow_sub-own : goal.overflow_sub-own
overflow_sub-own c = more_faces _ _ _ _ c.requires

pub overflow_add-result-2 : goal.overflow_add-result-2
overflow_add-result-2 c = let f = c.requires in let m = more_faces _ _ _ _ f in let n = bend_few c.args.r c.args.w.due c.args.b f.shallow in omega (arith, c.bend_size-n.ensures, f.triangles, f.few)

pub overflow_add-result-3 : goal.overflow_add-result-3
overflow_add-result-3 c = let f = c.requires in let m = more_faces _ _ _ _ f in let n = bend_few c.args.r c.args.w.due c.args.b f.shallow in omega (arith, c.bend_size-n.ensures, f.triangles, f.few)
