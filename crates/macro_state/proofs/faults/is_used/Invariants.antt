use Rattle.std.proofs.Common.{◌≡◌, drop}
use Rattle.macro_state.specs.Faults.{is_used_at}
use Rattle.macro_state.proofs.faults.is_used.Given as goal

-- the name is used at the place if it is used there from here on
abbrev pub invariant-loop-other : goal.invariant-loop-other
invariant-loop-other l = is_used_at (drop l.other-index l.others) l.place l.name.sixbit ≡ is_used_at l.others l.place l.name.sixbit
