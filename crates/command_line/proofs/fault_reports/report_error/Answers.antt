use Rattle.command_line.proofs.FaultReportLemmas.{reports_line, reports_source}
use Rattle.command_line.proofs.fault_reports.report_error.Goals as goal

-- the text that was made of the line was handed to the port
pub returns-in-Ok : goal.returns-in-Ok
returns-in-Ok g c =
    reports_line _ _ _ _ _ _ c.as_slice.ensures.value (c.write_all.result, c.write_all.ensures) c.in-Script.number c.in-Script.is c.in-Ok.ensures

pub returns-in-Ok-source_text : goal.returns-in-Ok-source_text
returns-in-Ok-source_text g c =
    reports_source _ _ _ _ _ _ c.as_slice-in-Ok-source_text.ensures.value
    (c.write_all-in-Ok-source_text.result, c.write_all-in-Ok-source_text.ensures) c.in-Source.fault c.in-Source.is c.in-Ok-source_text.ensures
