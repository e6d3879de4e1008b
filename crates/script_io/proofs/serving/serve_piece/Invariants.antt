use Rattle.std.proofs.Common.{◌≡◌, ◌≤◌, ◌+◌, false, ◌++◌, length}
use Rattle.script_io.specs.Transcripts.{after}
use Rattle.script_io.specs.Serves.{Sends}
use Rattle.script_io.proofs.serving.serve_piece.Given as goal

abbrev pub invariant-loop-rest : goal.invariant-loop-rest
invariant-loop-rest g l = record {
  count : g.S.Session.count l.session + length l.rest ≤ g.S.Session.count l.initial.session + length l.piece;
  sends : Sends (g.W.ByteOut.written l.initial.writer) (g.W.ByteOut.written l.writer)
      (λ more. g.S.Session.follow l.initial.session (l.piece ++ more))
      (λ more. after l.out.items (g.S.Session.follow l.session (l.rest ++ more)));
  sound : g.W.ByteOut.has_failed l.writer ≡ false;
}

abbrev pub decreases-loop-rest : goal.decreases-loop-rest
decreases-loop-rest g l = length l.rest
