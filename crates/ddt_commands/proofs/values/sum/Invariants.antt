use Rattle.std.proofs.Common.{◌≡◌, ◌-◌}
use Rattle.ddt_commands.specs.Values.{repeated, sum_of, summand}
use Rattle.ddt_commands.proofs.values.sum.Given as goal

abbrev pub invariant-summands : goal.invariant-summands
invariant-summands l =
    repeated (summand l.scope) (l.most - l.counter) l.value l.reader.rest.now ≡ sum_of l.scope l.fn.reader.rest.now
