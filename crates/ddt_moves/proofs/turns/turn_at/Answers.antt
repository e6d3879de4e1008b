use Rattle.std.proofs.Common.{◌∙◌}
use Rattle.ddt_moves.specs.Replays.{machine_in, steps_made, to_come}
use Rattle.ddt_moves.proofs.TurnLemmas.{turn-behind}
use Rattle.ddt_moves.proofs.turns.turn_at.Goals as goal

pub returns : goal.returns
returns c =
    c.next_turn-turn.ensures
    ∙ turn-behind c.args.steps (steps_made c.in_ok-replay.replay) (to_come c.in_ok-replay.replay) (to_come c.skip_to.new.self) _
    (machine_in c.in_ok-replay.replay) (machine_in c.skip_to.new.self) _ c.in_ok-replay.ensures.steps c.in_ok-replay.ensures.to_come
    c.in_ok-replay.ensures.machine c.skip_to.ensures.to_come c.skip_to.ensures.machine
