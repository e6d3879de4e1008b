-- The files that the program writes, by their names.
use Rattle.std.specs.Prelude.{◌≡◌, true, false, codes, IfSome}
use Rattle.program_shell.specs.Outputs.{ends_in, is_file_of}
use Rattle.macro_main.specs.declared.arguments.Options.{Options}

-- the listing and the cross-reference have names of their own, and neither is a file of the source
pub record HasOutputs (o : Options) : Type 0 where
  pub list : IfSome o.list (λ file. (ends_in file.now (codes ".lst") ≡ true) × (is_file_of file.now o.files.items ≡ false))
  pub cross : IfSome o.cross (λ file. (ends_in file.now (codes ".crf") ≡ true) × (is_file_of file.now o.files.items ≡ false))
