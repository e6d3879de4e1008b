use Rattle.std.proofs.Common.{◌++◌, ◌∙◌, ap}
use Rattle.std.specs.Prelude.{codes}
use Rattle.lock_queue.specs.Jobs.{waits_for}
use Rattle.wait_graph.specs.Pairs.{pair_in}
use Rattle.queue_script.specs.WaitPairs.{circle_jobs, or_none, pairs_text}
use Rattle.queue_script.proofs.PairLemmas.{circle-same, four_texts, pairs-same}
use Rattle.wait_graph.proofs.PairLemmas.{nothing, table-pairs}
use Rattle.queue_script.proofs.wait_pairs.push_waits.Goals as goal

pub fill_pairs-requires-clause-empty : goal.fill_pairs-requires-clause-empty
fill_pairs-requires-clause-empty g c = λ i. nothing i

pub returns : goal.returns
returns g c =
    let requests = g.L.LockTable.requests c.args.table.now in
    let pairs = c.fill_pairs.new.pairs in
    let alike = table-pairs pairs (waits_for requests) c.fill_pairs.ensures.pairs in
    let lines = pairs-same (pair_in pairs) (waits_for requests) alike in
    let same = circle-same (pair_in pairs) (waits_for requests) alike in
    let o0 = c.args.out.now.items in
    let o2 = c.extend_from_slice.new.self.items in
    four_texts o0 c.push_pairs.new.out.items o2 c.push_circle.new.out.items c.push.new.self.items
    (pairs_text (waits_for requests)) (codes "CIRCLE") (or_none (circle_jobs (waits_for requests))) (codes "\n")
    (c.in_ok-push_pairs.ensures ∙ ap (λ t. o0 ++ t) lines) c.in_ok-extend_from_slice.ensures.items
    (c.in_ok-push_circle.ensures ∙ ap (λ t. o2 ++ or_none t) same) c.in_ok-push.ensures.items
