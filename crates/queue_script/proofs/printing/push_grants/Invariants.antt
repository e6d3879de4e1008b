use Rattle.std.proofs.Common.{◌≡◌, ◌++◌, drop}
use Rattle.std.specs.List.{flat_map}
use Rattle.queue_script.specs.Printing.{grant_line}
use Rattle.queue_script.proofs.printing.push_grants.Given as goal

abbrev pub invariant-loop-grant : goal.invariant-loop-grant
invariant-loop-grant l = l.out.items ++ flat_map grant_line (drop l.grant-index l.grants) ≡ l.initial.out.items ++ flat_map grant_line l.grants
