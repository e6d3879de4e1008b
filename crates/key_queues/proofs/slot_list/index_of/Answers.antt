use Rattle.std.proofs.Common.{◌∙◌, sym, arith}
use Rattle.std.proofs.lemmas.Grind.{common_steps}
use Rattle.key_queues.proofs.Orders.{passed_on}
use Rattle.key_queues.proofs.slot_list.index_of.Goals as goal

pub loop-i-preserved : goal.loop-i-preserved
loop-i-preserved c = record {
  within = omega arith;
  rest = passed_on c.args.p c.loop-i.i 16 c.args.list.now (omega arith) (sym c.is_among.ensures ∙ c.if-not-is_among.true) c.loop-i.invariant.rest;
}

pub loop-i-2-preserved : goal.loop-i-2-preserved
loop-i-2-preserved c = grind (arith, common_steps)

pub returns : goal.returns
returns c = grind (arith, common_steps)
