use Rattle.std.proofs.Common.{◌≡◌, ◌∙◌, sym, ap, true}
use Rattle.machine.specs.Between.{pc_in}
use Rattle.machine.specs.Machine.{S}
use Rattle.ddt_moves.specs.Replays.{is_ready, machine_in, to_come}
use Rattle.ddt_moves.proofs.TurnLemmas.{no_turn, turn-next}
use Rattle.ddt_moves.proofs.turns.next_turn.Goals as goal

pub returns-then-not-go_before_step : goal.returns-then-not-go_before_step
returns-then-not-go_before_step c =
    no_turn (to_come c.args.replay.now) (to_come c.go_before_step.new.self) (machine_in c.args.replay.now) c.go_before_step.ensures.to_come
    (c.go_before_step.ensures.end c.if-not-go_before_step.true)

pub returns : goal.returns
returns c =
    let ready : is_ready c.go_before_step.new.self ≡ true = sym c.go_before_step.ensures.ready ∙ c.if-not-go_before_step.false in
    c.turn_among.ensures
    ∙ turn-next (to_come c.args.replay.now) (to_come c.step.new.self) (machine_in c.args.replay.now) (machine_in c.go_before_step.new.self)
    (machine_in c.step.new.self) c.pcs_of-pcs.result c.step.result (c.step.ensures.made ready ∙ c.go_before_step.ensures.to_come)
    c.go_before_step.ensures.machine (c.step.ensures.machine ready) (c.step.ensures.ran ready)
    (λ n few. c.pcs_of-pcs.ensures n few ∙ ap (λ (x : S). pc_in x n) c.machine.ensures)
