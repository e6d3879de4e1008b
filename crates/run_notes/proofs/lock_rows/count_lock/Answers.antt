use Rattle.std.proofs.Common.{◌≡◌, ◌<◌, ◌++◌, ◌∙◌, true, length, get_or, take, drop, sym, ap, arith}
use Rattle.std.proofs.Math.ListN.{set}
use Rattle.std.proofs.lemmas.List.{get_or_default}
use Rattle.lock_queue.specs.Keys.{same_key}
use Rattle.run_notes.specs.Waits.{with_count}
use Rattle.run_notes.specs.declared.lock_rows.LockRow.{LockRow}
use Rattle.run_notes.proofs.WaitLemmas.{row_found}
use Rattle.run_notes.proofs.lock_rows.count_lock.Goals as goal

pub returns-then-is_same : goal.returns-then-is_same
returns-then-is_same c =
    let rows = c.loop-i.rows.items in
    let i = c.loop-i.i in
    let key = c.args.key.now in
    let x = c.index_mut-row.result.now in
    let within : i < length rows = omega arith in
    let read : x ≡ get_or rows i x = c.index_mut-row.ensures.value in
    let same : c.index.result.now ≡ x = c.index.ensures ∙ get_or_default rows i c.index.result.now x within ∙ sym read in
    let own : same_key x.key key ≡ true = ap (λ (r : LockRow). same_key r.key key) (sym same) ∙ sym c.if-is_same.ensures in
    let before : take i rows ++ with_count c.args.count key (drop i rows) ≡ with_count c.args.count key c.args.rows.now.items =
    c.loop-i.invariant.none ∙ ap (λ v. with_count c.args.count key v.items) c.loop-i.invariant.same in
    ap (λ (r : LockRow). set rows i r) c.count.ensures
    ∙ row_found c.args.count key rows i x (with_count c.args.count key c.args.rows.now.items) within read own before
