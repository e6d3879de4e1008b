use Rattle.std.proofs.Common.{◌≡◌, ◌≤◌, take}
use Rattle.std.specs.Prelude.{count_by}
use Rattle.run_notes.specs.Steps.{is_own, is_told}
use Rattle.run_notes.proofs.snapshot.requests_of.Given as goal

-- those so far
abbrev pub invariant-loop-i : goal.invariant-loop-i
invariant-loop-i l = record {
  all : l.requests.all ≡ count_by (is_own l.number) (take l.i l.machine.world.requests);
  notified : l.requests.notified ≡ count_by (is_told l.number) (take l.i l.machine.world.requests);
  most : l.requests.all ≤ l.i;
  told : l.requests.notified ≤ l.i;
}
