use Rattle.std.proofs.Common.{◌≡◌, ◌-◌}
use Rattle.ddt_commands.specs.Values.{factor, product_of, repeated}
use Rattle.ddt_commands.proofs.values.product.Given as goal

abbrev pub invariant-factors : goal.invariant-factors
invariant-factors l =
    repeated (factor l.scope) (l.most - l.counter) l.value l.reader.rest.now ≡ product_of l.scope l.fn.reader.rest.now
