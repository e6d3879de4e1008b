-- What each command of `image` writes for its input, and how it ends (this project's profile).
use Rattle.std.specs.Prelude.{ℕ, List}
use Rattle.script_io.specs.Transcripts.{Transcript}
use Rattle.image_service.specs.Transcripts.{listed, repacked, saved, sourced}
use Rattle.image_service.specs.declared.commands.ImageCommand.{ImageCommand}
use Rattle.image_service.specs.declared.commands.ImageCommand.TheVariants as commands
use Rattle.image_service.specs.declared.endings.Ending.{Ending}

abbrev pub answered : ImageCommand → List ℕ → Transcript Ending
answered (commands.Words from to) bytes = repacked from to bytes
answered (commands.Source from shown) bytes = sourced from shown bytes
answered (commands.Save to) source = saved to source
answered (commands.List from) bytes = listed from bytes
