use Rattle.std.proofs.Common.{◌≡◌, drop}
use Rattle.std.specs.List.{list_all}
use Rattle.macro_meaning.specs.Meaning.{has_value}
use Rattle.macro_meaning.proofs.sources.has_values.Given as goal

-- the table has the values of the symbols so far
abbrev pub invariant-loop-at : goal.invariant-loop-at
invariant-loop-at l = list_all (has_value l.table.entries) (drop l.at l.defined.entries) ≡ list_all (has_value l.table.entries) l.defined.entries
