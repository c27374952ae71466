-- `mesh::answer::is_plenty` meets its contract. Assumes nothing.
use Prim.Native.Nat.{◌/◌, ◌^◌}
use borrow.Author.Tests.{leb-true}
use Rattle.mesh.proofs.Rooms.{shifted_room}
use Rattle.mesh.proofs.answer.is_plenty.Goals as goal

pub returns-then-coords-r : goal.returns-then-coords-r
returns-then-coords-r c =
    let a = c.args in
    let m = 2 ^ a.level in
    λ e. record { vertices = shifted_room m a.coords a.r.vertices c.if-coords-r.true; triangles = shifted_room m a.coords a.r.triangles (leb-true a.coords (a.r.triangles / m / 2) e) }
