-- The state of a script on the machine (this project's profile).
use Rattle.std.specs.Prelude.{Option}
use Rattle.machine.specs.Machine.{S}
use Rattle.op_script.specs.Images.{Named}
use Rattle.op_script.specs.Sources.{SourceText}

-- the machine, the images that jobs may begin with, and the source that is being read, between ASSEMBLE and ENDASM
pub record StateValue : Type 0 where
  pub machine : S
  pub images : Named
  pub source : Option SourceText
