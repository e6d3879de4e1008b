use Rattle.std.proofs.Common.{◌≡◌, ◌≤◌, ◌-◌, true, length, take}
use Rattle.std.specs.List.{list_all}
use Rattle.queue_script.specs.Locks.{is_name_character}
use Rattle.queue_script.proofs.locks.name_length.Given as goal

abbrev pub invariant-fours : goal.invariant-fours
invariant-fours l = record {
  within : l.count ≤ length l.text;
  named : list_all is_name_character (take l.count l.text) ≡ true;
}

abbrev pub decreases-fours : goal.decreases-fours
decreases-fours l = length l.text - l.count

abbrev pub invariant-ones : goal.invariant-ones
invariant-ones l = record {
  within : l.count ≤ length l.text;
  named : list_all is_name_character (take l.count l.text) ≡ true;
}

abbrev pub decreases-ones : goal.decreases-ones
decreases-ones l = length l.text - l.count
