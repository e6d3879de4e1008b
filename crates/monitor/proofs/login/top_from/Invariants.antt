use Rattle.std.proofs.Common.{◌≡◌, ◌<◌, ◌^◌, drop}
use Rattle.machine.specs.Images.{top_from}
use Rattle.monitor.proofs.login.top_from.Given as goal

abbrev pub invariant-loop-entry : goal.invariant-loop-entry
invariant-loop-entry l = record {
  rest : top_from l.last (drop l.entry-index l.words) ≡ top_from l.top l.words;
  below : l.last < 2 ^ 18;
}
