use Rattle.std.proofs.Common.{◌+◌, ap, drop}
use Rattle.lock_queue.specs.Queue.{wants_at}
use Rattle.lock_queue.specs.StatusWords.{first_level}
use Rattle.lock_queue.proofs.StatusLaws.{first_level_drop, first_of}
use Rattle.plain_table.proofs.status.level_at.Goals as goal

pub returns-in-Some : goal.returns-in-Some
returns-in-Some c =
    let step = first_level_drop c.args.key.now c.args.requests.now c.loop-r.r-index c.r-item.result c.loop-r-test.true c.r-item.is in
    let found = rw c.as_slice.ensures.value at c.in-Some.ensures in
    let first = ap (λ o. first_of o (first_level (wants_at (drop (c.loop-r.r-index + 1) c.args.requests.now) c.args.key.now))) found in
    cc (step, first, c.loop-r.invariant)

pub loop-r-preserved : goal.loop-r-preserved
loop-r-preserved c =
    let step = first_level_drop c.args.key.now c.args.requests.now c.loop-r.r-index c.r-item.result c.loop-r-test.true c.r-item.is in
    let found = rw c.as_slice.ensures.value at c.in_default.ensures in
    let first = ap (λ o. first_of o (first_level (wants_at (drop (c.loop-r.r-index + 1) c.args.requests.now) c.args.key.now))) found in
    cc (step, first, c.loop-r.invariant)
