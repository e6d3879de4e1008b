use Rattle.program_shell.proofs.reports.report_to.Goals as goal

-- what `write_all` answered is what the port gave for the text
pub returns-clause-handed : goal.returns-clause-handed
returns-clause-handed g c = (c.write_all.result, c.write_all.ensures)
