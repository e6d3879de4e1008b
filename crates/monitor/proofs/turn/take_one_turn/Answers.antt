use Rattle.std.proofs.Common.{◌≡◌, ◌∙◌, ap, ℕ, arith}
use Rattle.machine.specs.Stretches.{Stretch, stretch_of}
use Rattle.monitor_laws.proofs.Stretching.{stretch-one}
use Rattle.monitor.proofs.turn.take_one_turn.Goals as goal

pub returns-clause-turn : goal.returns-clause-turn
returns-clause-turn g c =
    let job = c.args.job.now in
    let cores = g.C.CoreStore.meaning c.args.cores.now in
    let requests = g.L.LockTable.requests c.args.locks.now in
    let one : c.run_turn-call.result.0 ≡ 1 = omega (arith, c.run_turn-call.ensures.least, c.run_turn-call.ensures.most) in
    ap (λ (x : Stretch). x.turn)
    (c.run_turn-call.ensures.turn
    ∙ ap (λ (k : ℕ). stretch_of c.args.number k job cores requests) one
    ∙ stretch-one c.args.number job cores requests)
