use Rattle.std.proofs.Common.{◌≡◌, ◌≤◌, ◌-◌}
use Rattle.lockview.specs.Rounds.{passed}
use Rattle.lockview.proofs.run_reasons.note_steps.Given as goal

abbrev pub invariant-steps : goal.invariant-steps
invariant-steps l = record {
  within : l.done ≤ l.count;
  machine : l.machine ≡ passed l.repeated l.done l.initial.machine;
}

abbrev pub decreases-steps : goal.decreases-steps
decreases-steps l = l.count - l.done
