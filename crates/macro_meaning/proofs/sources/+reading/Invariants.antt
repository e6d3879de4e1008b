use Rattle.std.proofs.Common.{◌≡◌, ◌-◌, ◌+◌, ◌*◌}
use Rattle.macro_meaning.specs.Meaning.{walked, next_step, read_through}
use Rattle.macro_meaning.proofs.sources.+reading.Given as goal

-- the statements to come lead to what all lead to
abbrev pub invariant-walk_through-loop : goal.invariant-walk_through-loop
invariant-walk_through-loop l =
    walked (next_step l.table.entries (read_through l.table.entries l.depth)) (l.most - l.counter) l.walk l.front
    ≡ walked (next_step l.table.entries (read_through l.table.entries l.depth)) l.most l.fn.walk l.fn.front

abbrev pub decreases-read_through : goal.decreases-read_through
decreases-read_through l = l.depth * 4

abbrev pub decreases-enter : goal.decreases-enter
decreases-enter l = l.depth * 4 + 1

abbrev pub decreases-next : goal.decreases-next
decreases-next l = l.depth * 4 + 2

abbrev pub decreases-walk_through : goal.decreases-walk_through
decreases-walk_through l = l.depth * 4 + 3
