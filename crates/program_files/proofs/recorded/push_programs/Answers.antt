use Rattle.std.proofs.Common.{arith}
use Rattle.program_files.proofs.Written.{all-written}
use Rattle.program_files.proofs.recorded.push_programs.Goals as goal

pub returns : goal.returns
returns c =
    all-written c.loop-i.number c.loop-i.i c.args.files.now c.args.programs.now c.loop-i.script.items _ (omega arith) c.loop-i.invariant
