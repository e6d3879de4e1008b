use Rattle.std.proofs.Common.{◌≡◌, ◌∙◌, sym, refl, Bool, true, false, cond, Some, None}
use Rattle.lock_queue.specs.Jobs.{waits_for}
use Rattle.wait_graph.proofs.PairLemmas.{table-pairs}
use Rattle.wait_graph.specs.Pairs.{pair_in}
use Rattle.lock_bars.proofs.arrows.push_arrow.Goals as goal

found_where : {A : Type 0} (is_there : Bool) (found there : A) → Some found ≡ cond is_there (Some there) None → is_there ≡ true
found_where true found there h = refl
found_where false found there h = cc

pub lock_of-lock-requires-clause-waits : goal.lock_of-lock-requires-clause-waits
lock_of-lock-requires-clause-waits c =
    let graph = c.args.graph.now in
    let requests = c.args.requests.now in
    let is_there = found_where (pair_in graph.waits c.args.job c.args.other) c.in-Some.wait _ c.in-Some.ensures in
    sym (table-pairs graph.waits (waits_for requests) c.requires.shows.0 c.args.job c.args.other c.requires.job c.requires.other) ∙ is_there
