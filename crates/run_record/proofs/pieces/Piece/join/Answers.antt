use Rattle.run_record.proofs.Events.{tick_joins, step_joins, ticks_join, typed_joins}
use Rattle.run_record.proofs.pieces.Piece.join.Goals.{in-Rounds-Step, in-Rounds-Tick, in-Ticks-Tick, in-Typed-Typed+in_ok-push-in-Typed-Typed}
use Rattle.run_record.proofs.pieces.Piece.join.Goals as goal

pub returns-clause-joined : goal.returns-clause-joined
returns-clause-joined c _ = elim c.match-self.branch [
  | in-Rounds-Step w ↦ rw (w.self-is, w.in-Rounds-Step.is-0, w.in-Rounds-Step.is-1) (step_joins _ _ (cc))
  | in-Rounds-Tick w ↦ rw (w.self-is, w.in-Rounds-Tick.is-0, w.in-Rounds-Tick.is-1) (tick_joins w.in-Rounds-Tick.rounds w.in-Rounds-Tick.stepped w.if-stepped.true)
  | in-Ticks-Tick w ↦ rw (w.self-is, w.in-Ticks-Tick.is-0, w.in-Ticks-Tick.is-1) (ticks_join w.in-Ticks-Tick.ticks)
  | in-Typed-Typed+in_ok-push-in-Typed-Typed w ↦ rw (w.self-is, w.in-Typed-Typed.is-0, w.in-Typed-Typed.is-1) (typed_joins _ _ _ _ _ w.if-line-at.true w.in_ok-push-in-Typed-Typed.ensures.items)
]
