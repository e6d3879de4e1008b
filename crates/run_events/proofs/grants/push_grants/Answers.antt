use Rattle.std.proofs.Common.{◌≡◌, ◌&&◌, ◌++◌, ◌∙◌, ◌∷◌, cond, Bool, [], take, sym, ap, append-nil}
use Rattle.lock_queue.specs.Queue.{is_granted}
use Rattle.run_events.specs.Grants.{is_new_grant, was_waiting}
use Rattle.run_events.specs.declared.facts.Fact.TheVariants.{Granted}
use Rattle.run_events.proofs.GrantLemmas.{facts_further}
use Rattle.run_events.proofs.grants.push_grants.Goals.{then-is_new_grant+in_ok-push, else-is_new_grant}
use Rattle.run_events.proofs.grants.push_grants.Goals as goal

pub loop-position-preserved : goal.loop-position-preserved
loop-position-preserved g c =
    let requests = g.L.LockTable.requests c.args.locks.now in
    let i = c.loop-position.position in
    let r = c.request-r.result.now in
    let test = is_new_grant c.args.before.now (take i requests) r in
    let known : c.is_new_grant.result ≡ test =
    c.is_new_grant.ensures
    ∙ ap (λ (b : Bool). b && was_waiting c.args.before.now r) (c.granted-is_granted.ensures ∙ ap (λ o. is_granted (take i requests) o) c.request-r.ensures) in
    let added : c.if-is_new_grant.facts.items ≡ c.loop-position.facts.items ++ cond test (Granted r ∷ []) [] =
    elim c.if-is_new_grant.branch [
      | then-is_new_grant+in_ok-push w ↦
          ap (λ v. v.items) w.facts-is
          ∙ w.in_ok-push.ensures.items
          ∙ ap (λ q. c.loop-position.facts.items ++ Granted q ∷ []) w.copied.ensures
          ∙ ap (λ (b : Bool). c.loop-position.facts.items ++ cond b (Granted r ∷ []) []) (sym w.if-is_new_grant.true ∙ known)
      | else-is_new_grant w ↦
          ap (λ v. v.items) w.facts-is
          ∙ sym (append-nil c.loop-position.facts.items)
          ∙ ap (λ (b : Bool). c.loop-position.facts.items ++ cond b (Granted r ∷ []) []) (sym w.if-is_new_grant.false ∙ known)
    ] in
    facts_further (is_new_grant c.args.before.now) Granted requests i r c.loop-position.facts.items
    c.if-is_new_grant.facts.items _ c.request-r.ensures added c.loop-position.invariant
