use Rattle.std.proofs.Common.{◌≡◌, ◌∙◌, ◌==◌, ap, sym, is_some}
use Rattle.lock_queue.specs.Dequeues.{has_wants, without_keys_of}
use Rattle.lock_queue.specs.Grants.{left_of}
use Rattle.plain_table.proofs.MarkLaws.{keeps, is_some-staying}
use Rattle.plain_table.proofs.waking.stays.Goals as goal

pub returns-in-DequeueNamed : goal.returns-in-DequeueNamed
returns-in-DequeueNamed c =
    let r = c.args.r.now in
    let named = c.in-DequeueNamed.named.items in
    let kept : c.keeps_want.result ≡ has_wants (without_keys_of c.args.job named r) =
    rw (← c.as_slice.ensures.value) (c.keeps_want.ensures ∙ keeps (r.job == c.args.job) c.as_slice.result.now r) in
    kept ∙ sym (is_some-staying (has_wants (without_keys_of c.args.job named r)) (without_keys_of c.args.job named r))
    ∙ ap (λ call. is_some (left_of c.args.job call r)) (sym c.in-DequeueNamed.is)
