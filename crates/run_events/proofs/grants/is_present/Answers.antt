use Rattle.std.proofs.Common.{◌∙◌, true, false, sym}
use Rattle.run_events.specs.Grants.{is_present, is_rest_of}
use Rattle.run_events.proofs.GrantLemmas.{any-step}
use Rattle.run_events.proofs.grants.is_present.Goals as goal

pub returns-then-is_rest_of : goal.returns-then-is_rest_of
returns-then-is_rest_of g c =
    let requests = g.L.LockTable.requests c.args.locks.now in
    any-step (λ r. is_rest_of r c.args.old.now) requests c.loop-i.i c.request.result.now true (is_present requests c.args.old.now)
    c.request.ensures (sym c.is_rest_of.ensures ∙ c.if-is_rest_of.true) c.loop-i.invariant

pub loop-i-preserved : goal.loop-i-preserved
loop-i-preserved g c =
    let requests = g.L.LockTable.requests c.args.locks.now in
    any-step (λ r. is_rest_of r c.args.old.now) requests c.loop-i.i c.request.result.now false (is_present requests c.args.old.now)
    c.request.ensures (sym c.is_rest_of.ensures ∙ c.if-is_rest_of.false) c.loop-i.invariant
