use Rattle.std.proofs.Common.{◌≡◌, drop}
use Rattle.std.specs.List.{list_all}
use Rattle.macro_meaning.specs.Meaning.{has_definition}
use Rattle.macro_meaning.proofs.sources.has_definitions.Given as goal

-- the symbols of the table so far are defined
abbrev pub invariant-loop-at : goal.invariant-loop-at
invariant-loop-at l = list_all (has_definition l.defined.entries) (drop l.at l.table.entries) ≡ list_all (has_definition l.defined.entries) l.table.entries
