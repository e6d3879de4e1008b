use Rattle.std.proofs.Common.{◌≡◌, ◌++◌, ◌-◌, ◌∙◌, List, sym, ap, arith, append_assoc}
use Rattle.run_record.specs.Pieces.{events_in, rounds}
use Rattle.run_record.specs.declared.happened.RunEvent.{RunEvent}
use Rattle.run_record.specs.declared.pieces.TheConstants.{MOST_ROUNDS}
use Rattle.run_record.proofs.Events.{rounds_part}
use Rattle.run_record.proofs.sequence.EventSequence.add_rounds.Goals as goal

pub loop-left-preserved : goal.loop-left-preserved
loop-left-preserved c =
    let later : List RunEvent = rounds (c.loop-left.left - MOST_ROUNDS) in
    ap (λ (l : List RunEvent). l ++ later) c.in_ok-add_piece.ensures
    ∙ append_assoc (events_in c.loop-left.self) (rounds MOST_ROUNDS) later
    ∙ ap (λ (l : List RunEvent). events_in c.loop-left.self ++ l)
    (sym (rounds_part c.loop-left.left MOST_ROUNDS (omega (arith, c.loop-left-test.true))))
    ∙ c.loop-left.invariant
