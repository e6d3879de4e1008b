use Rattle.std.proofs.Common.{◌≡◌, ◌≤◌, ◌<◌, ℕ, true, not, length, get_or}
use Rattle.ddt_commands.specs.Texts.{is_escape}
use Rattle.ddt_commands.proofs.reader.cut_at_last_escape.Given as goal

abbrev pub invariant-back : goal.invariant-back
invariant-back l = record {
  within : l.end ≤ length l.text;
  none_behind : (k : ℕ) → l.end ≤ k → k < length l.text → not (is_escape (get_or l.text k 0)) ≡ true;
}

abbrev pub decreases-back : goal.decreases-back
decreases-back l = l.end
