-- The files that the program writes, by their names.
use Rattle.std.specs.Prelude.{◌≡◌, true, false, codes, IfSome}
use Rattle.program_shell.specs.Outputs.{ends_in, is_file_of}
use Rattle.ten.specs.declared.options.Options.{Options}

-- the picture and the script have names of their own, and neither is a file of a program
pub record HasOutputs (o : Options) : Type 0 where
  pub picture : IfSome o.picture (λ file. (ends_in file.now (codes ".svg") ≡ true) × (is_file_of file.now o.inputs.items ≡ false))
  pub record_file : IfSome o.record (λ file. (ends_in file.now (codes ".run") ≡ true) × (is_file_of file.now o.inputs.items ≡ false))
