use Rattle.std.proofs.Common.{arith}
use Rattle.run_notes.proofs.StepLemmas.{registers_further}
use Rattle.run_notes.specs.Steps.{register_words}
use Rattle.run_notes.proofs.stores.push_registers.Goals as goal

pub loop-register-preserved : goal.loop-register-preserved
loop-register-preserved c =
    registers_further (register_words c.args.machine.now.world c.args.job.now.number c.args.before.now) c.loop-register.register _ _ _
    (omega arith)
    c.in_ok-push_register.ensures c.loop-register.invariant
