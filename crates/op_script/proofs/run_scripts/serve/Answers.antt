use Rattle.std.proofs.Common.{◌∙◌, ap}
use Rattle.std.specs.Str.Lines.{lines}
use Rattle.op_script.specs.RunScripts.{transcript, transcript_of}
use Rattle.script_io.proofs.ServeLemmas.{serves_as, serves_nothing}
use Rattle.op_script.proofs.run_scripts.serve.Goals as goal

pub returns-in-Err-clause-serves : goal.returns-in-Err-clause-serves
returns-in-Err-clause-serves g c = serves_nothing (transcript c.args.config.blocks c.args.config.quantum) _ _

pub returns-clause-serves : goal.returns-clause-serves
unfolding transcript
returns-clause-serves g c =
    serves_as _ (transcript c.args.config.blocks c.args.config.quantum) _ _ _ _ _ (λ bytes.
    c.new-session.ensures.fresh bytes ∙ ap (λ d. transcript_of d 0 (lines bytes)) c.in-Ok.ensures) c.serve_script.ensures.serves
