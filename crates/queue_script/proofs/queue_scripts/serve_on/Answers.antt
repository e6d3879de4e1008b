use Rattle.std.proofs.Common.{◌∙◌, [], ap}
use Rattle.std.specs.Str.Lines.{lines}
use Rattle.queue_script.specs.QueueScripts.{transcript_of}
use Rattle.script_io.proofs.ServeLemmas.{serves_as, serves_nothing}
use Rattle.queue_script.proofs.queue_scripts.serve_on.Goals as goal

pub returns-in-Err-clause-serves : goal.returns-in-Err-clause-serves
returns-in-Err-clause-serves g c = serves_nothing (λ bytes. transcript_of g.L.LockTable.REQS [] 0 (lines bytes)) _ _

pub returns-clause-serves : goal.returns-clause-serves
returns-clause-serves g c =
    serves_as _ (λ bytes. transcript_of g.L.LockTable.REQS [] 0 (lines bytes)) _ _ _ _ _
    (λ bytes. c.new-session.ensures.fresh bytes ∙ c.new-service.ensures 0 (lines bytes)
    ∙ ap (λ requests. transcript_of g.L.LockTable.REQS requests 0 (lines bytes)) c.in-Ok.ensures) c.serve_script.ensures.serves
