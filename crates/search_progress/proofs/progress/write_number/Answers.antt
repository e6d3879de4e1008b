use Rattle.std.proofs.Common.{◌∙◌, ◌++◌, decimal, subst}
use Rattle.std.proofs.lemmas.Result.{err_from_is_err_and}
use Rattle.script_io.specs.Ports.{WritesAll}
use Rattle.search_progress.proofs.Writing.{both_written, cut_short}
use Rattle.search_progress.proofs.progress.write_number.Goals as goal

pub returns-in_err-write_all : goal.returns-in_err-write_all
returns-in_err-write_all g c =
    let p = err_from_is_err_and c.from_residual.result c.from_residual.ensures.1 in
    rw p.1 (cut_short _ _ _ c.args.words.now (decimal c.args.number) c.in_err-write_all.ensures)

pub returns : goal.returns
returns g c =
    let written = g.W.ByteOut.written in
    subst (λ digits. WritesAll (written c.args.out.now) (written c.write_all-2.new.writer)
    (g.W.ByteOut.has_failed c.write_all-2.new.writer) c.write_all-2.result (c.args.words.now ++ digits))
    (c.as_bytes.ensures.value ∙ c.format.ensures.text)
    (both_written _ _ _ _ _ c.args.words.now c.as_bytes.result.now c.in_ok-write_all.ensures.0 c.write_all-2.ensures)
