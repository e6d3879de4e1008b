use Rattle.std.proofs.Common.{◌≡◌, ◌++◌, drop}
use Rattle.queue_script.specs.Printing.{wants_text}
use Rattle.queue_script.proofs.printing.push_wants.Given as goal

abbrev pub invariant-loop-want : goal.invariant-loop-want
invariant-loop-want l = l.out.items ++ wants_text (drop l.want-index l.wants) ≡ l.initial.out.items ++ wants_text l.wants
