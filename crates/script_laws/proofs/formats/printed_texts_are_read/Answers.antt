use Rattle.script_laws.proofs.TextLemmas.{text_read}
use Rattle.script_laws.proofs.formats.printed_texts_are_read.Goals as goal

pub returns : goal.returns
returns c = text_read
