use Rattle.script_laws.proofs.Along.{follows_transcript}
use Rattle.script_laws.proofs.queues.requests_are_those_of_the_transcript.Goals as goal

pub returns : goal.returns
returns c = follows_transcript
