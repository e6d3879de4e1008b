use Rattle.std.proofs.Common.{◌∙◌}
use Rattle.command_line.proofs.FaultReportLemmas.{tells_head}
use Rattle.command_line.proofs.fault_reports.report_head.Goals as goal

-- the line that was made was handed to the port
pub returns : goal.returns
returns g c =
    tells_head _ _ _ _ _ _ _ c.in-Some-of.ensures (c.as_bytes.ensures.value ∙ c.as_str.ensures.value ∙ c.in-Ok.ensures.ok)
    (c.write_all.result, c.write_all.ensures)
