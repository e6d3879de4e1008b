use Rattle.program_shell.proofs.reports.write_output.Goals as goal

-- what `write_all` answered is what the port gave for the text
pub returns-in-Ok-clause-handed : goal.returns-in-Ok-clause-handed
returns-in-Ok-clause-handed g c = (c.write_all.result, c.write_all.ensures)

pub returns-in-Err-clause-handed : goal.returns-in-Err-clause-handed
returns-in-Err-clause-handed g c = (c.write_all.result, c.write_all.ensures)
