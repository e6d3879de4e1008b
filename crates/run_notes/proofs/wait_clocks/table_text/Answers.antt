use Rattle.std.specs.Prelude.{string_bytes}
use Rattle.run_notes.proofs.WaitLemmas.{table_further}
use Rattle.run_notes.proofs.wait_clocks.table_text.Goals as goal

pub loop-row-preserved : goal.loop-row-preserved
loop-row-preserved c =
    table_further c.args.waiting.now c.args.rows.now c.loop-row.row-index c.row-item.result (string_bytes c.loop-row.text) _ _ c.loop-row-test.true
    c.row-item.is c.in_ok-push_row.ensures c.loop-row.invariant
