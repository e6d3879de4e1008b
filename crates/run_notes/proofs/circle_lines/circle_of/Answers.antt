use Rattle.std.proofs.Common.{◌≡◌, ◌<◌, ◌∙◌, ap, sym, length, arith, rules}
use Rattle.std.proofs.lemmas.Option.{IfSome_then}
use Rattle.std.proofs.lemmas.Result.{IfOk-weaker}
use Rattle.lock_queue.specs.Waits.{is_in_circle}
use Rattle.wait_graph.proofs.PairLemmas.{circle_in}
use Rattle.wait_graph.specs.Pairs.{pair_in}
use Rattle.wait_graph.specs.declared.pairs.TheConstants.{NUMBERS, PAIRS}
use Rattle.run_notes.proofs.CircleLemmas.{circle_waits, steps_wait}
use Rattle.run_notes.proofs.circle_lines.circle_of.Goals as goal

pub returns-then-not-is_in_circle-clause-none : goal.returns-then-not-is_in_circle-clause-none
returns-then-not-is_in_circle-clause-none c = λ none within.
    let number : c.args.job < NUMBERS = omega (arith, within) in
    let same : c.from.result ≡ c.args.job = search rules in
    sym (circle_in c.pair_table-pairs.result c.args.machine.now.world.requests c.args.job c.pair_table-pairs.ensures.pairs number)
    ∙ ap (is_in_circle (pair_in c.pair_table-pairs.result)) (sym same)
    ∙ sym c.is_in_circle.ensures ∙ c.if-not-is_in_circle.true

pub returns-clause-circle : goal.returns-clause-circle
returns-clause-circle c =
    let pairs = c.pair_table-pairs.result in
    let size : length pairs ≡ PAIRS = omega arith in
    IfOk-weaker c.circle_through.result _ _
    (λ o found. IfSome_then o found
    (λ circle. circle_waits pairs c.args.machine.now.world.requests size c.pair_table-pairs.ensures.pairs circle.items))
    c.circle_through.ensures.circle

pub returns-clause-shortest : goal.returns-clause-shortest
returns-clause-shortest c =
    let pairs = c.pair_table-pairs.result in
    let number : c.args.job < NUMBERS = omega arith in
    IfOk-weaker c.circle_through.result _ _
    (λ o found. IfSome_then o found
    (λ circle short n few.
    steps_wait pairs c.args.machine.now.world.requests c.pair_table-pairs.ensures.pairs n c.args.job number (short n few)))
    c.circle_through.ensures.shortest
