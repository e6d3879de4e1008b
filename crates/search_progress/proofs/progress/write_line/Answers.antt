use Rattle.std.proofs.Common.{◌++◌, ◌-◌, codes, decimal, sym}
use Rattle.std.proofs.lemmas.Result.{err_from_is_err_and}
use Rattle.search_progress.proofs.Writing.{both_written, cut_behind, cut_short}
use Rattle.search_progress.proofs.progress.write_line.Goals as goal

pub returns-in_err-write_number : goal.returns-in_err-write_number
returns-in_err-write_number g c =
    let p = err_from_is_err_and c.from_residual.result c.from_residual.ensures.1 in
    rw p.1
    (cut_short _ _ _ (c.args.head.now ++ decimal c.args.met)
    (codes " states met, " ++ (decimal (c.args.met - c.args.done) ++ codes " waiting\n")) c.in_err-write_number.ensures)

pub returns-in_err-write_number-2 : goal.returns-in_err-write_number-2
returns-in_err-write_number-2 g c =
    let p = err_from_is_err_and c.from_residual-in_err-write_number-2.result c.from_residual-in_err-write_number-2.ensures.1 in
    rw (p.1, sym c.saturating_sub.ensures)
    (cut_behind _ _ _ _ (c.args.head.now ++ decimal c.args.met) _ c.in_ok-write_number.ensures.0
    (cut_short _ _ _ (codes " states met, " ++ decimal c.saturating_sub.result) (codes " waiting\n") c.in_err-write_number-2.ensures))

pub returns : goal.returns
returns g c =
    rw (sym c.saturating_sub.ensures)
    (both_written _ _ _ _ _ (c.args.head.now ++ decimal c.args.met) _ c.in_ok-write_number.ensures.0
    (both_written _ _ _ _ _ (codes " states met, " ++ decimal c.saturating_sub.result) (codes " waiting\n")
    c.in_ok-write_number-2.ensures.0 c.write_all.ensures))
