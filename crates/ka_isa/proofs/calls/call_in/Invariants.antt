use Rattle.std.proofs.Common.{◌≡◌, drop}
use Rattle.ka_isa.specs.Operations.{call_in}
use Rattle.ka_isa.specs.Tables.{call_rows}
use Rattle.ka_isa.proofs.calls.call_in.Given as goal

-- the call is that of the rows from here on
abbrev pub invariant-loop-known : goal.invariant-loop-known
invariant-loop-known l = call_in (call_rows (drop l.known-index l.calls)) l.name ≡ call_in (call_rows l.calls) l.name
