use Rattle.std.proofs.Common.{◌≡◌, ◌++◌, ◌-◌, drop}
use Rattle.machine.specs.declared.sizes.TheConstants.{MOST_TAKES}
use Rattle.ddt_timeline.specs.Views.{history}
use Rattle.ddt_moves.proofs.TerminalLemmas.{AsMuch}
use Rattle.ddt_moves.proofs.terminals.take_line.Given as goal

abbrev pub invariant-loop : goal.invariant-loop
invariant-loop l =
    AsMuch (MOST_TAKES - l.counter) l.line (history l.timeline) l.bytes.items MOST_TAKES (history l.initial.timeline)
    l.initial.bytes.items

abbrev pub invariant-loop-character : goal.invariant-loop-character
invariant-loop-character l = l.bytes.items ++ drop l.character-index l.character-items ≡ l.initial.bytes.items ++ l.character-items
