use Rattle.std.proofs.Common.{◌≡◌, ◌++◌, drop, map}
use Rattle.orders_program.specs.Telling.{standing_told}
use Rattle.orders_program.proofs.ends.jobs_of.Given as goal

-- the jobs so far and those to come are all
abbrev pub invariant-loop-left : goal.invariant-loop-left
invariant-loop-left l =
    map (λ j. j.standing) l.jobs.items ++ map (λ l. standing_told l.standing) (drop l.left-index l.all)
    ≡ map (λ l. standing_told l.standing) l.all
