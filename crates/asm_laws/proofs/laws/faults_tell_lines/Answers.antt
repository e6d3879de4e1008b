use Rattle.std.proofs.Common.{◌≡◌, Result, Ok, Err}
use Rattle.mac_asm.specs.Assembly.{Assembled}
use Rattle.mac_layout.specs.Faults.{Fault}
use Rattle.mac_asm.specs.Outcome.{outcome_of}
use Rattle.asm_laws.proofs.Told.{image-told}
use Rattle.asm_laws.proofs.FaultLines.{fault-names-line}
use Rattle.asm_laws.proofs.laws.faults_tell_lines.Goals as goal

no-both : (r : Result Assembled Fault) (image : Assembled) (fault : Fault) → r ≡ Ok image → r ≡ Err fault → ⊥
no-both r image fault h k = cc

pub returns : goal.returns
returns c = λ source fault h. record {
  no_image = λ image assembly. no-both (outcome_of source) image fault (image-told source image assembly) h;
  within = (fault-names-line source fault h).within;
  counted = (fault-names-line source fault h).counted;
}
