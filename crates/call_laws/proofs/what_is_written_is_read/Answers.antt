use Rattle.call_laws.proofs.DataWords.{what_is_written_is_read}
use Rattle.call_laws.proofs.what_is_written_is_read.Goals as goal

pub returns : goal.returns
returns c = what_is_written_is_read
