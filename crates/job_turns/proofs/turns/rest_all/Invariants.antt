use Rattle.std.proofs.Common.{◌≡◌, ◌++◌, take, drop, map}
use Rattle.std.specs.Option.{option_map}
use Rattle.job_order_laws.specs.Erased.{rested}
use Rattle.job_turns.proofs.turns.rest_all.Given as goal

abbrev pub invariant-loop-slot : goal.invariant-loop-slot
invariant-loop-slot l =
    take l.slot-index l.jobs ++ map (option_map rested) (drop l.slot-index l.jobs) ≡ map (option_map rested) l.initial.jobs
