use Rattle.std.proofs.Common.{◌-◌, ◌∙◌, sym, ap}
use Rattle.key_queues.proofs.Lists.{remove_last}
use Rattle.key_queues.proofs.entry.take_out.Goals as goal

pub returns-then-k-len : goal.returns-then-k-len
returns-then-k-len g c =
    let last = c.if-k-len.true ∙ ap (λ n. n - 1) c.len.ensures.value in
    c.pop.ensures.rest ∙ sym (remove_last c.args.list.now.items c.args.k last c.requires)
