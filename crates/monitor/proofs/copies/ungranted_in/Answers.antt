use Rattle.std.proofs.Common.{◌≡◌, ◌++◌, ◌∙◌, ◌∷◌, cond, Bool, not, [], take, sym, ap, append-nil}
use Rattle.lock_queue.specs.Queue.{is_granted}
use Rattle.machine.specs.Waits.{is_ungranted}
use Rattle.monitor.proofs.Copying.{chosen-further}
use Rattle.monitor.proofs.copies.ungranted_in.Goals.{then-not-is_granted+in_ok-push, else-not-is_granted}
use Rattle.monitor.proofs.copies.ungranted_in.Goals as goal

pub loop-i-preserved : goal.loop-i-preserved
loop-i-preserved g c =
    let requests = g.L.LockTable.requests c.args.table.now in
    let i = c.loop-i.i in
    let r = c.request-r.result.now in
    let test = is_ungranted (take i requests) r in
    let known : not c.granted-is_granted.result ≡ test =
    ap (λ (b : Bool). not b) (c.granted-is_granted.ensures ∙ ap (λ o. is_granted (take i requests) o) c.request-r.ensures) in
    let added : c.if-not-is_granted.requests.items ≡ c.loop-i.requests.items ++ cond test (r ∷ []) [] =
    elim c.if-not-is_granted.branch [
      | then-not-is_granted+in_ok-push w ↦
          ap (λ v. v.items) w.requests-is
          ∙ w.in_ok-push.ensures.items
          ∙ ap (λ q. c.loop-i.requests.items ++ q ∷ []) w.copied.ensures
          ∙ ap (λ (b : Bool). c.loop-i.requests.items ++ cond b (r ∷ []) []) (sym (ap (λ (b : Bool). not b) w.if-not-is_granted.true) ∙ known)
      | else-not-is_granted w ↦
          ap (λ v. v.items) w.requests-is
          ∙ sym (append-nil c.loop-i.requests.items)
          ∙ ap (λ (b : Bool). c.loop-i.requests.items ++ cond b (r ∷ []) []) (sym (ap (λ (b : Bool). not b) w.if-not-is_granted.false) ∙ known)
    ] in
    chosen-further is_ungranted requests i r c.loop-i.requests.items c.if-not-is_granted.requests.items _ c.request-r.ensures added c.loop-i.invariant
