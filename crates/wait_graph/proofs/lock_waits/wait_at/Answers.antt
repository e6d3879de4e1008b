use Rattle.std.proofs.Common.{◌≡◌, ◌≢◌, ◌==◌, ◌∙◌, [], true, false, cond, Some, None, ap, sym, length, take, vec_len, arith, rules}
use Rattle.std.proofs.lemmas.Grind.{common_steps}
use Rattle.std.specs.List.{find}
use Rattle.wait_graph.specs.LockWaits.{has_keeper}
use Rattle.wait_graph.proofs.KeeperLemmas.{find_here, no_keepers, none_found, some_keeper}
use Rattle.wait_graph.proofs.lock_waits.wait_at.Goals as goal

pub loop-want-preserved : goal.loop-want-preserved
loop-want-preserved c =
    let earlier = take c.args.position c.args.requests.now in
    let is_held = c.waits_for_owner-is_held.result in
    let long : length c.in_ok-jobs.jobs.items ≡ vec_len c.in_ok-jobs.jobs = search rules in
    let nobody : c.in_ok-jobs.jobs.items ≡ [] = none_found c.in_ok-jobs.jobs.items (ap (λ n. n == 0) long ∙ sym c.is_empty.ensures ∙ c.if-not-is_empty.false) in
    let free : has_keeper is_held c.args.requests.now c.args.job earlier c.want-item.result ≡ false =
    no_keepers c.in_ok-jobs.jobs.items is_held c.args.requests.now c.args.job earlier c.want-item.result c.in_ok-jobs.ensures nobody in
    grind (arith, common_steps, free)

pub returns-then-not-is_empty-clause-lock : goal.returns-then-not-is_empty-clause-lock
returns-then-not-is_empty-clause-lock c =
    let earlier = take c.args.position c.args.requests.now in
    let is_held = c.waits_for_owner-is_held.result in
    let wants = c.args.r.now.wants.items in
    let test = has_keeper is_held c.args.requests.now c.args.job earlier in
    let some : c.in_ok-jobs.jobs.items ≢ [] = search rules in
    let kept : test c.want-item.result ≡ true =
    some_keeper c.in_ok-jobs.jobs.items is_held c.args.requests.now c.args.job earlier c.want-item.result c.in_ok-jobs.ensures some in
    let first : find test wants ≡ Some c.want-item.result =
    sym c.loop-want.invariant.first
    ∙ find_here test c.as_slice-want-items.result.now c.loop-want.want-index c.want-item.result c.loop-want-test.true c.want-item.is kept in
    ap (λ b. cond b (find test wants) None) (sym c.is_blocked.ensures ∙ c.if-not-is_blocked.false) ∙ first
