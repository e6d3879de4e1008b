use Rattle.std.proofs.Common.{◌≡◌, ◌∙◌, ap, subst, ℕ, List, IfOk}
use Rattle.machine.specs.Machine.{S}
use Rattle.ddt_timeline.specs.declared.entries.Entry.{Entry}
use Rattle.ddt_timeline.specs.Views.{history}
use Rattle.ddt_moves.specs.Replays.{machine_in, steps_made, to_come}
use Rattle.ddt_moves.specs.Turns.{kept, last_of, states_before, turns_from, turns_in}
use Rattle.ddt_moves.specs.declared.past_steps.Turns.{Turns}
use Rattle.ddt_moves.proofs.past_steps.last_turns.Goals as goal

pub returns : goal.returns
returns c =
    let r = c.in_ok-replay.replay in
    let all
    : turns_from c.args.job (steps_made r) (states_before (to_come r) (machine_in r)) ≡ turns_in (history c.args.timeline.now) c.args.job =
    ap (λ (n : ℕ). turns_from c.args.job n (states_before (to_come r) (machine_in r))) c.in_ok-replay.ensures.steps
    ∙ ap (λ (l : List Entry). turns_from c.args.job 0 (states_before l (machine_in r))) c.in_ok-replay.ensures.to_come
    ∙ ap (λ (x : S). turns_from c.args.job 0 (states_before (history c.args.timeline.now).past x)) c.in_ok-replay.ensures.machine in
    subst (λ (steps : List ℕ). IfOk c.turns_of-turns.result (λ (turns : Turns). kept turns ≡ last_of c.args.most steps)) all
    c.turns_of-turns.ensures
