use Rattle.std.proofs.lemmas.Str.Ascii.{trim_ascii_start_is}
use Rattle.ddt_commands.proofs.reader.Reader.skip.Goals as goal

pub returns : goal.returns
returns c = trim_ascii_start_is _ _ c.trim_ascii_start-self.ensures.value
