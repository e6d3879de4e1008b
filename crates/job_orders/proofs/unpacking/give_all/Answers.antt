use Rattle.std.proofs.Common.{◌≡◌, ◌+◌, arith}
use Rattle.word36.specs.declared.sizes.TheConstants.{JOBS}
use Rattle.monitor.proofs.Clearing.{cleared}
use Rattle.job_orders.proofs.unpacking.give_all.Goals as goal

pub returns : goal.returns
returns g c =
    let all : JOBS + 1 ≡ c.loop-n.n = omega arith in
    cleared (g.C.CoreStore.meaning c.loop-n.cores) c.args.blocks c.loop-n.invariant.store c.loop-n.invariant.words
    (λ k low. c.loop-n.invariant.bare k (omega arith))
