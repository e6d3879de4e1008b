use Rattle.std.proofs.Common.{◌∙◌, sym}
use Rattle.ka_cpu.specs.Exec.{exec}
use Rattle.core_store.specs.Cores.{core_of}
use Rattle.next_turns.proofs.Calling.{clock_none, clock_some}
use Rattle.next_turns.proofs.next_turn.is_clock_next.Goals as goal

pub returns-in-Some : goal.returns-in-Some
returns-in-Some g c =
    c.is_clock.ensures
    ∙ clock_some (exec c.args.job.now.regs (core_of (g.C.CoreStore.meaning c.args.cores.now) c.args.n)).outcome c.in-Some.service
    (sym c.next_service.ensures ∙ c.in-Some.is)

pub returns-in-None : goal.returns-in-None
returns-in-None g c =
    clock_none (exec c.args.job.now.regs (core_of (g.C.CoreStore.meaning c.args.cores.now) c.args.n)).outcome
    (sym c.next_service.ensures ∙ c.in-None.is)
