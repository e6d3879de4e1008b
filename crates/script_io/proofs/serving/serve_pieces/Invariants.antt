use Rattle.std.proofs.Common.{◌≡◌, ◌+◌, ◌*◌, ◌^◌, ◌<◌, [], false}
use Rattle.script_io.specs.Serves.{Goes}
use Rattle.script_io.proofs.serving.serve_pieces.Given as goal

abbrev pub invariant-pieces : goal.invariant-pieces
invariant-pieces g l = record {
  goes : Goes (g.R.ByteIn.to_come l.initial.reader) (g.R.ByteIn.to_come l.reader) (g.W.ByteOut.written l.initial.writer) (g.W.ByteOut.written l.writer)
      (g.S.Session.follow l.initial.session) (g.S.Session.follow l.session);
  reader_sound : g.R.ByteIn.has_failed l.reader ≡ false;
  writer_sound : g.W.ByteOut.has_failed l.writer ≡ false;
  empty : l.out.items ≡ [];
  room : g.S.Session.count l.session + 2 ^ 14 * (g.R.ByteIn.reads_left l.reader + 1) < 2 ^ 127;
}

abbrev pub decreases-pieces : goal.decreases-pieces
decreases-pieces g l = g.R.ByteIn.reads_left l.reader
