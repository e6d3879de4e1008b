use Rattle.std.proofs.Common.{◌∙◌, sym}
use Rattle.job_turns.proofs.GoingOn.{move-made, no-turn, not-clear}
use Rattle.job_turns.proofs.turns.Turns.make_move.Goals as goal

pub returns-then-not-is_clear-clause-made : goal.returns-then-not-is_clear-clause-made
returns-then-not-is_clear-clause-made g c =
    not-clear c.args.most c.args.count c.args.k c.args.self.now (sym c.is_clear.ensures ∙ c.if-not-is_clear.true)

pub returns-then-not-can_run-clause-made : goal.returns-then-not-can_run-clause-made
returns-then-not-can_run-clause-made g c =
    no-turn c.args.most c.args.count c.args.k c.args.self.now (sym c.is_clear.ensures ∙ c.if-not-is_clear.false)
    (sym c.can_run.ensures ∙ c.if-not-can_run.true)

pub returns-clause-made : goal.returns-clause-made
returns-clause-made g c =
    move-made c.args.most c.args.count c.args.k c.args.self.now c.take_turn_at_once.new.self c.settle.new.self
    (sym c.is_clear.ensures ∙ c.if-not-is_clear.false) c.in_ok-take_turn_at_once.ensures.turned c.in_ok-settle.ensures.settled
