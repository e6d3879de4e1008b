use Rattle.command_line.proofs.serving.report_machine.Goals as goal

pub returns-in-Run : goal.returns-in-Run
returns-in-Run g c =
    rw c.in-Run.is (c.config_of-taken.result, c.config_of-taken.ensures.blocks, c.config_of-taken.ensures.quantum, c.report_head.ensures)
