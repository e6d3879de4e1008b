use Rattle.queue_script.specs.QueueScripts.{transcript}
use Rattle.queue_script.proofs.queue_scripts.serve_queue.Goals as goal

pub returns-clause-serves : goal.returns-clause-serves
unfolding transcript
returns-clause-serves g c = c.serve_on.ensures.serves
