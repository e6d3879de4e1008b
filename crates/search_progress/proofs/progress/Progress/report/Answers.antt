use Rattle.std.proofs.Common.{◌∙◌}
use Rattle.search_progress.proofs.Writing.{fails_with, gets_all}
use Rattle.search_progress.proofs.progress.Progress.report.Goals as goal

pub returns-clause-written : goal.returns-clause-written
returns-clause-written g c = gets_all _ _ _ c.write_line-written.result _ _ c.is_err-self.ensures.value c.write_line-written.ensures

pub returns-clause-closed : goal.returns-clause-closed
returns-clause-closed g c =
    c.is_err-self.ensures.value ∙ fails_with _ _ _ c.write_line-written.result _ c.write_line-written.ensures
