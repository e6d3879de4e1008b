use Rattle.std.proofs.Common.{◌≤◌, ◌-◌, length}
use Rattle.queue_script.proofs.CodeLemmas.{IsCode}
use Rattle.queue_script.specs.declared.locks.TheConstants.{MOST_CODE}
use Rattle.queue_script.proofs.locks.front_code.Given as goal

abbrev pub invariant-digits : goal.invariant-digits
invariant-digits l = record {
  code : IsCode l.text l.count l.number;
  within : l.count ≤ length l.text;
  small : l.number ≤ MOST_CODE;
}

abbrev pub decreases-digits : goal.decreases-digits
decreases-digits l = length l.text - l.count
