use Rattle.std.proofs.Common.{◌≡◌, ◌<◌, ◌+◌, ◌∙◌, sym, ap, [], ◌∷◌, ◌++◌, None, get_or, length, map, take, true, arith}
use Rattle.std.proofs.lemmas.Grind.{common_steps}
use Rattle.std.proofs.lemmas.List.{map-append, take_more}
use Rattle.lock_queue.specs.declared.want.Want.{Want}
use Rattle.key_queues.specs.Beginnings.{is_share_of}
use Rattle.key_queues.proofs.Counting.{queue_appended}
use Rattle.lock_table.specs.Changing.{want_then}
use Rattle.lock_table.proofs.Altering.{then_pool}
use Rattle.lock_table.proofs.change.fitting_then.Goals as goal

pub loop-p-preserved : goal.loop-p-preserved
loop-p-preserved g c =
    let s = c.args.store.now in
    let f = want_then s c.args.n c.args.job c.args.c.now in
    let slots = c.args.slots.now in
    let i = c.loop-p.p-index in
    let w = c.want_then.result in
    let p = get_or slots i 0 in
    let lt : i < length slots = omega (arith, c.loop-p-test.true) in
    let more : map f (take (i + 1) slots) ≡ map f (take i slots) ++ w ∷ [] =
    ap (map f) (take_more slots i 0 lt) ∙ map-append f (take i slots) (p ∷ [])
    ∙ ap (λ (v : Want). map f (take i slots) ++ v ∷ []) (sym c.want_then.ensures) in
    let share : is_share_of None w.pool ≡ true =
    ap (λ (v : Want). is_share_of None v.pool) c.want_then.ensures
    ∙ ap (is_share_of None) (then_pool s c.args.n c.args.job c.args.c.now p) ∙ (c.requires.unpooled i 0 lt).unpooled in
    rw (more, c.append.ensures) (queue_appended None (map f (take i slots)) c.loop-p.queue p w c.loop-p.invariant share)

pub append-requires : goal.append-requires
append-requires g c = grind (arith, common_steps)

pub returns : goal.returns
returns g c = record { value = grind (arith, common_steps); most = grind (arith, common_steps) }
