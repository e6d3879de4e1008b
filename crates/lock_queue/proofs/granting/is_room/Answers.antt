use Rattle.std.proofs.Common.{arith}
use Rattle.std.proofs.lemmas.Bool.Decides.{nat_tests}
use Rattle.lock_queue.proofs.Granted.{amounts_drop}
use Rattle.lock_queue.proofs.granting.is_room.Goals as goal

pub returns-in-None : goal.returns-in-None
returns-in-None c =
    let step = amounts_drop c.args.key.now c.args.earlier.now c.loop-r.r-index c.r-item.result c.loop-r-test.true c.r-item.is in
    let over = rw c.as_slice.ensures.value at c.in-None.ensures in
    grind (arith, nat_tests, step, over)

pub loop-r-preserved : goal.loop-r-preserved
loop-r-preserved c =
    let step = amounts_drop c.args.key.now c.args.earlier.now c.loop-r.r-index c.r-item.result c.loop-r-test.true c.r-item.is in
    let left = rw c.as_slice.ensures.value at c.in-Some.ensures in
    omega (arith, step, left)
