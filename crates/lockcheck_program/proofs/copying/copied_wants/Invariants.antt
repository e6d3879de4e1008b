use Rattle.std.proofs.Common.{◌≡◌, take}
use Rattle.lockcheck_program.proofs.copying.copied_wants.Given as goal

abbrev pub invariant-loop-want : goal.invariant-loop-want
invariant-loop-want l = l.copy.items ≡ take l.want-index l.want-items
