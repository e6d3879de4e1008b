use Rattle.std.proofs.Common.{[], ap, length, List, ℕ, arith}
use Rattle.std.proofs.lemmas.List.{length-replicate}
use Rattle.key_queues.proofs.Lists.{repeated_more}
use Rattle.key_queues.proofs.slot_list.no_lists.Goals as goal

pub loop-preserved : goal.loop-preserved
loop-preserved g c = (repeated_more c.loop.counter [] _ _ _ c.push_reserved.ensures.items c.loop.invariant.0 c.in_ok-new.ensures, omega arith)

pub returns-clause-long : goal.returns-clause-long
returns-clause-long g c = omega (arith, ap length c.loop.invariant.0, length-replicate {A = List ℕ} c.loop.counter [])

pub push_reserved-requires : goal.push_reserved-requires
push_reserved-requires g c = omega (arith, c.loop.own.ok.0, ap length c.loop.invariant.0, length-replicate {A = List ℕ} c.loop.counter [])
