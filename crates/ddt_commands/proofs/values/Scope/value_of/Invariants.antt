use Rattle.std.proofs.Common.{◌≡◌, drop}
use Rattle.ddt_commands.specs.Values.{value_in}
use Rattle.ddt_commands.proofs.values.Scope.value_of.Given as goal

abbrev pub invariant-loop-symbol : goal.invariant-loop-symbol
invariant-loop-symbol l = value_in (drop l.symbol-index l.symbol-items) l.name ≡ value_in l.self.symbols.now l.name
