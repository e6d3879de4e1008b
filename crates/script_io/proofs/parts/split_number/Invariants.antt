use Rattle.std.proofs.Common.{◌≤◌, ◌-◌, length}
use Rattle.script_io.proofs.FrontLemmas.{Follows}
use Rattle.script_io.proofs.parts.split_number.Given as goal

abbrev pub invariant-digits : goal.invariant-digits
invariant-digits l = record {
  follows : Follows l.most l.separator l.text l.i l.value;
  within : l.i ≤ length l.text;
}

abbrev pub decreases-digits : goal.decreases-digits
decreases-digits l = length l.text - l.i
