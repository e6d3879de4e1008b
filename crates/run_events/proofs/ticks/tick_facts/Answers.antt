use Rattle.std.proofs.Common.{◌≡◌, ◌==◌, ◌++◌, ◌∙◌, false, length, sym, ap, List, Option, refl, arith, rules}
use Rattle.std.proofs.lemmas.Grind.{common_steps}
use Rattle.std.specs.List.{filter_map}
use Rattle.lock_queue.specs.declared.request.Request.{Request}
use Rattle.lock_queue.specs.Waits.{jobs}
use Rattle.job_sched.specs.Changes.{ticked_table}
use Rattle.job_sched.specs.declared.job.Job.{Job}
use Rattle.machine.specs.Machine.{S, ticked}
use Rattle.machine.specs.Waits.{ungranted}
use Rattle.run_events.specs.Facts.{ended_fact, granted_facts, limit_fact, with_grants}
use Rattle.run_events.specs.declared.facts.Fact.{Fact}
use Rattle.run_events.proofs.TickLemmas.{limits_told, no_limits, with-all}
use Rattle.run_events.proofs.ticks.tick_facts.Goals as goal

pub returns-then-ended-eq0-clause-facts : goal.returns-then-ended-eq0-clause-facts
returns-then-ended-eq0-clause-facts g c =
    let s = c.args.system.now in
    c.new.ensures.items
    ∙ sym
    (ap (λ (l : List Fact). with_grants (ungranted s.world.requests) (ticked s).state.world.requests l)
    (no_limits c.tick_told-ended.result.0 s.world.requests (ticked_table s.world.table).jobs jobs c.if-ended-eq0.true c.tick_told-ended.ensures.ended))

pub returns-clause-facts : goal.returns-clause-facts
returns-clause-facts g c =
    let s = c.args.system.now in
    let requests : List Request = s.world.requests in
    let table : List (Option Job) = (ticked_table s.world.table).jobs in
    let ended = c.tick_told-ended.result.0 in
    let after : List Request = (ticked s).state.world.requests in
    let found : c.in_ok-before.before.items ≡ ungranted requests = first_of (search rules, grind (arith, common_steps)) in
    let limits : c.in_ok-facts.facts.items ≡ filter_map (limit_fact requests table) jobs =
    c.in_ok-facts.ensures
    ∙ ap (λ (l : List Request). filter_map (ended_fact ended l) jobs) (c.as_slice.ensures.value ∙ found)
    ∙ limits_told ended (ungranted requests) requests table jobs c.tick_told-ended.ensures.ended (λ some. refl) in
    let some : (length c.in_ok-facts.facts.items == 0) ≡ false = grind (arith, common_steps, c.is_empty.ensures, c.if-is_empty.false) in
    with-all (ungranted requests) after c.in_ok-facts.facts.items _ c.push_grants.new.facts.items limits
    some
    (c.in_ok-push_grants.ensures
    ∙ ap (λ (l : List Request). c.in_ok-facts.facts.items ++ granted_facts l (g.L.LockTable.requests c.locks.result.now)) (c.as_slice-2.ensures.value ∙ found)
    ∙ ap (λ (l : List Request). c.in_ok-facts.facts.items ++ granted_facts (ungranted requests) l)
    (c.locks.ensures ∙ ap (λ (v : S). v.world.requests) c.tick_told-ended.ensures.state))
