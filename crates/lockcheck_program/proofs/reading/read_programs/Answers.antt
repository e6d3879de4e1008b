use Rattle.lockcheck_program.proofs.EndingLemmas.{script_alike}
use Rattle.lockcheck_program.proofs.reading.read_programs.Goals as goal

pub returns-in_err-lines-clause-alike : goal.returns-in_err-lines-clause-alike
returns-in_err-lines-clause-alike c = script_alike c.args.script.now

pub returns-in_err-programs-clause-alike : goal.returns-in_err-programs-clause-alike
returns-in_err-programs-clause-alike c = script_alike c.args.script.now

pub returns-clause-alike : goal.returns-clause-alike
returns-clause-alike c = script_alike c.args.script.now
