use Rattle.std.proofs.Common.{◌≡◌, ◌-◌, ◌*◌, ◌≤◌, length}
use Rattle.op_script.specs.Events.{taken_by}
use Rattle.machine.specs.declared.sizes.TheConstants.{MOST_TAKES}
use Rattle.op_script.proofs.EventLemmas.{behind}
use Rattle.op_script.proofs.events.take_characters.Given as goal

abbrev pub invariant-takes : goal.invariant-takes
invariant-takes g l = record {
  taken : behind l.text.items (taken_by (MOST_TAKES - l.counter) l.event l.machine) ≡ taken_by MOST_TAKES l.event l.initial.machine;
  room : length l.text.items ≤ 64 * l.counter;
}
