-- The files that the program writes, by their names.
use Rattle.std.specs.Prelude.{◌≡◌, true, false, IfSome}
use Rattle.program_shell.specs.declared.outputs.NameEnd.{NameEnd}
use Rattle.program_shell.specs.declared.outputs.NameEnd.TheVariants as ends
use Rattle.program_shell.specs.Outputs.{inputs_of, is_file_of, is_right_end}
use Rattle.image_service.specs.declared.commands.ImageCommand.{ImageCommand}
use Rattle.image_service.specs.declared.commands.ImageCommand.TheVariants as commands
use Rattle.image.specs.declared.arguments.Options.{Options}

-- how the name of a command's output ends: as that of a source only where the output is one
abbrev pub output_end : ImageCommand → NameEnd
output_end (commands.Words from to) = ends.NoSource
output_end (commands.Source from shown) = ends.NoScript
output_end (commands.Save to) = ends.NoSource
output_end (commands.List from) = ends.NoSource

-- the output has a name of its own, and is not the input
abbrev pub HasOutput : Options → Type 0
HasOutput o = IfSome o.output (λ file.
    (is_right_end (output_end o.command) file.now ≡ true) × (is_file_of file.now (inputs_of o.input) ≡ false))
