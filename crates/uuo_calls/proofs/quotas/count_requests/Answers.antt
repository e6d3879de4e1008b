use Rattle.std.proofs.Common.{◌∙◌, sym, arith}
use Rattle.uuo_calls.specs.QuotaRows.{count}
use Rattle.uuo_calls.proofs.Counts.{counted-own, counted-other}
use Rattle.uuo_calls.proofs.quotas.count_requests.Goals.{then-from-number, else-from-number}
use Rattle.uuo_calls.proofs.quotas.count_requests.Goals as goal

pub loop-i-preserved : goal.loop-i-preserved
loop-i-preserved g c =
    let requests = g.L.LockTable.requests c.args.locks.now in
    let r = c.request.result.now in
    elim c.if-from-number.branch [
      | then-from-number w ↦ record {
        value =
            rw w.count-is
            (counted-own requests c.loop-i.i c.args.number c.loop-i.count r (count requests c.args.number) c.request.ensures
            (sym c.from.ensures ∙ w.if-from-number.true) c.loop-i.invariant.value);
        few = omega (arith, w.count-is, c.loop-i.invariant.few);
      }
      | else-from-number w ↦ record {
        value =
            rw w.count-is
            (counted-other requests c.loop-i.i c.args.number c.loop-i.count r (count requests c.args.number) c.request.ensures
            (λ e. w.if-from-number.false (c.from.ensures ∙ e)) c.loop-i.invariant.value);
        few = omega (arith, w.count-is, c.loop-i.invariant.few);
      }
    ]
