use Rattle.std.proofs.Common.{◌∙◌, sym, ap}
use Rattle.machine.specs.Machine.{S}
use Rattle.ddt_moves.specs.Replays.{before_step}
use Rattle.ddt_moves.proofs.ReplayLemmas.{before-event, from-event, no_steps}
use Rattle.ddt_moves.proofs.replays.begin.Goals as goal

pub returns-in_default : goal.returns-in_default
returns-in_default c =
    let none = no_steps c.args.entry.now c.in_default.not-Rounds in
    record {
      things = λ l. sym (from-event c.args.entry.now l none);
      machine = λ l. ap (λ (x : S). before_step l x) c.perform.ensures.state ∙ sym (before-event c.args.entry.now l c.args.machine.now none);
    }
