use Rattle.std.proofs.Common.{arith}
use Rattle.script_io.proofs.ServeLemmas.{goes_on, goes_stops}
use Rattle.script_io.proofs.serving.serve_pieces.Goals as goal

pub pieces-preserved : goal.pieces-preserved
pieces-preserved g c =
    let r = c.in-Ok-true.ensures in
    record {
      goes = goes_on _ _ _ _ _ _ _ _ _ c.pieces.invariant.goes r.goes;
      reader_sound = r.sound.0;
      writer_sound = r.sound.1;
      empty = r.sound.2;
      room = let fall = r.falls c.in-Ok-true.field-0-test in omega (arith, fall, r.count);
    }

pub returns-in-Ok-false-clause-goes : goal.returns-in-Ok-false-clause-goes
returns-in-Ok-false-clause-goes g c = goes_on _ _ _ _ _ _ _ _ _ c.pieces.invariant.goes c.in-Ok-false.ensures.goes

pub returns-in-Err-clause-stops : goal.returns-in-Err-clause-stops
returns-in-Err-clause-stops g c = goes_stops _ _ _ _ _ _ _ _ c.pieces.invariant.goes c.in-Err.ensures.stops
