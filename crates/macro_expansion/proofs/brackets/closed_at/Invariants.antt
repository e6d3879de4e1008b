use Rattle.std.proofs.Common.{◌≡◌, ◌≤◌, drop}
use Rattle.macro_expansion.specs.Brackets.{closed_at}
use Rattle.macro_expansion.proofs.brackets.closed_at.Given as goal

-- the brackets that are open so far are closed later
abbrev pub invariant-loop-i : goal.invariant-loop-i
invariant-loop-i l =
    record {
      same : closed_at l.depth l.i (drop l.i l.text) ≡ closed_at 0 0 l.text;
      below : l.depth ≤ l.i;
    }
