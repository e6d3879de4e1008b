use Rattle.job_moves.proofs.Alone.{stays-awake}
use Rattle.job_turns.proofs.Turning.{at-once-made, can-turn}
use Rattle.job_turns.proofs.turns.Turns.take_turn_at_once.Goals as goal

pub rest_job-requires : goal.rest_job-requires
rest_job-requires g c = (can-turn c.args.self.now c.args.n c.requires.awake.sound c.requires.ready).number.1

pub returns-clause-turned : goal.returns-clause-turned
returns-clause-turned g c =
    let is = rw (← c.self-inside.view_is) at c.self.view_is in
    at-once-made c.args.self.now c.take_turn.new.self _ _ _ c.args.n _ _ _ is c.requires.awake c.in_ok-take_turn.ensures c.rest_job.ensures

pub returns-clause-awake : goal.returns-clause-awake
returns-clause-awake g c =
    let is = rw (← c.self-inside.view_is) at c.self.view_is in
    stays-awake c.args.self.now _ c.args.n c.requires.awake
    (at-once-made c.args.self.now c.take_turn.new.self _ _ _ c.args.n _ _ _ is c.requires.awake c.in_ok-take_turn.ensures c.rest_job.ensures)
