use Rattle.std.proofs.lemmas.Result.{err_from_is_err_and}
use Rattle.macro_meaning.specs.Meaning.{next_step, read_through}
use Rattle.macro_meaning.proofs.Walks.{Next, walk_goes_on, walk_ends, walk_stops, walk_done}
use Rattle.macro_meaning.proofs.sources.+reading.Goals as goal

pub walk_through-returns-in_err-is_end : goal.walk_through-returns-in_err-is_end
walk_through-returns-in_err-is_end t c =
    let step : Next = next_step c.args.table.now.entries (read_through c.args.table.now.entries c.args.depth) in
    let p = err_from_is_err_and c.from_residual.result c.from_residual.ensures.1 in
    rw (p.1, p.2)
    (walk_stops step c.in_err-is_end.field-0.0 c.args.most c.loop.counter c.loop.walk c.loop.front _
    c.loop-test.true c.in_err-is_end.ensures c.loop.invariant)

pub walk_through-returns-then-is_end : goal.walk_through-returns-then-is_end
walk_through-returns-then-is_end t c =
    let step : Next = next_step c.args.table.now.entries (read_through c.args.table.now.entries c.args.depth) in
    walk_ends step c.args.most c.loop.counter c.loop.walk c.next.new.walk c.loop.front c.next.new.front
    c.in_ok-is_end.is_end _ c.loop-test.true c.in_ok-is_end.ensures c.if-is_end.true c.loop.invariant

pub walk_through-loop-preserved : goal.walk_through-loop-preserved
walk_through-loop-preserved t c =
    let step : Next = next_step c.args.table.now.entries (read_through c.args.table.now.entries c.args.depth) in
    walk_goes_on step c.args.most c.loop.counter c.loop.walk c.next.new.walk c.loop.front c.next.new.front
    c.in_ok-is_end.is_end _ c.loop-test.true c.in_ok-is_end.ensures c.if-is_end.false c.loop.invariant

pub walk_through-returns : goal.walk_through-returns
walk_through-returns t c =
    let step : Next = next_step c.args.table.now.entries (read_through c.args.table.now.entries c.args.depth) in
    walk_done step c.args.most c.loop.counter c.loop.walk c.loop.front _
    c.loop-test.false c.loop.invariant
