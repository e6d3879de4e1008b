use Rattle.std.proofs.Common.{◌∙◌, ap, sym, subst}
use Rattle.job_moves.specs.Moves.{IsAwake, begun}
use Rattle.turn_tests.proofs.Beginnings.{awake_start}
use Rattle.turn_tests.proofs.begun.machine_of.Goals as goal

pub returns : goal.returns
returns c =
    subst IsAwake
    (sym
    (c.in_ok-machine.ensures.begun
    ∙ ap (λ w. begun (record { world = w; time = 0; quantum = 1; blocks = c.args.blocks })) c.into_world-world.ensures.world))
    (awake_start c.args.system c.args.blocks c.into_world-world.ensures.sound.safe c.requires)
