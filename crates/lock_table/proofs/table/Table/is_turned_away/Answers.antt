use Rattle.std.proofs.Common.{◌≡◌, arith}
use Rattle.std.proofs.lemmas.Grind.{common_steps}
use Rattle.std.proofs.lemmas.List.{get_or_read}
use Rattle.lock_queue.specs.Queue.{fits}
use Rattle.lock_queue.specs.Unused.{unused_want}
use Rattle.lock_table.specs.Whole.{requests_in}
use Rattle.lock_table.proofs.Fits.{fits_at}
use Rattle.lock_table.proofs.table.Table.is_turned_away.Given.{Over}
use Rattle.lock_table.proofs.table.Table.is_turned_away.Goals.{After-fits_last}
use Rattle.lock_table.proofs.table.Table.is_turned_away.Goals as goal

known : (g : Over) (c : After-fits_last g) → c.fits_last.result ≡ fits (requests_in c.args.self.now.store) c.index-wants-k.result
known g c =
    let k = c.loop-k.k in
    let w = c.index-wants-k.result in
    let read = get_or_read c.args.wants.now k w c.loop-k-test.true c.index-wants-k.is unused_want in
    fits_at c.args.self.now.store c.args.self.now.keys c.requires.table c.args.wants.now c.args.found.now k w c.fits_last.result c.requires.found
    c.requires.admits c.are_in_range.ensures c.loop-k-test.true read c.fits_last.ensures.found c.fits_last.ensures.none

pub returns-then-not-fits_last : goal.returns-then-not-fits_last
returns-then-not-fits_last g c = grind (arith, common_steps, known g c.before, c.loop-k.invariant)

pub loop-k-preserved : goal.loop-k-preserved
loop-k-preserved g c = grind (arith, common_steps, known g c.before, c.loop-k.invariant)

pub fits_last-requires : goal.fits_last-requires
fits_last-requires g c = grind (arith, common_steps)
