use Rattle.std.proofs.Common.{◌<◌, arith, length, lit<, ap}
use Rattle.std.proofs.lemmas.Grind.{common_steps}
use Rattle.key_queues.specs.declared.entry.Entry.{Entry}
use Rattle.lock_table.specs.Reads.{request_at}
use Rattle.lock_table.proofs.Keepers.{queue_within}
use Rattle.lock_table.proofs.readings.is_kept_from.Goals as goal

pub is_kept_at-requires : goal.is_kept_at-requires
is_kept_at-requires g c =
    let s = c.args.store.now in
    let want : c.loop-k.k < length (request_at s c.args.p).wants.items =
    omega (arith, c.loop-k-test.true, c.len-k-end.ensures.value, ap (λ (f : Entry). length f.request.wants.items) c.get.ensures.value) in
    let within = queue_within s c.args.keys.now c.args.p c.loop-k.k c.requires.table c.requires.present want in
    (lit< tt, (lit< tt, (c.requires.table, (c.requires.present, (want, within)))))

pub loop-k-preserved : goal.loop-k-preserved
loop-k-preserved g c = grind (arith, common_steps)
