use Rattle.std.proofs.Common.{◌∙◌, arith}
use Rattle.key_queues.proofs.Finding.{free_found, keyed_more, spare_made}
use Rattle.key_queues.proofs.keys.Keys.take_free.Goals as goal

pub invariant_of-self-then-n : goal.invariant_of-self-then-n
invariant_of-self-then-n g c =
    rw (c.push_reserved.ensures.items, c.push_reserved.ensures.capacity, c.unused.ensures)
    (keyed_more _ _ _ _ c.self.invariant (omega arith))

pub returns-then-n : goal.returns-then-n
returns-then-n g c =
    spare_made _ _ _ _ _ c.self.view_is c.push_reserved.ensures.items c.unused.ensures (c.len-n.ensures ∙ c.self.inside.locks.ok.0)

pub returns-else-n : goal.returns-else-n
returns-else-n g c = grind (arith, free_found c.args.self.now)

pub overflow_cast-result-else-n : goal.overflow_cast-result-else-n
overflow_cast-result-else-n g c = grind (arith, free_found c.args.self.now)
