use Rattle.run_record.proofs.Events.{rounds_join}
use Rattle.run_record.proofs.pieces.Piece.join_rounds.Goals as goal

pub returns-in-Rounds-clause-joined : goal.returns-in-Rounds-clause-joined
returns-in-Rounds-clause-joined c _ =
    rw c.in-Rounds.is (rounds_join c.in-Rounds.made c.args.count c.in-Rounds.stepped c.if-not-stepped.true)
