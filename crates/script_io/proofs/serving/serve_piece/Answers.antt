use Rattle.std.proofs.Common.{◌++◌, arith, refl, sym}
use Rattle.std.proofs.lemmas.Result.{on_ok_weaker, on_err_weaker}
use Rattle.std.proofs.lemmas.Bool.{eqb-true}
use Rattle.script_io.proofs.ServeLemmas.{sends_front, sends_cut, sends_end, end_cut}
use Rattle.script_io.proofs.serving.serve_piece.Goals as goal

pub loop-rest-preserved : goal.loop-rest-preserved
loop-rest-preserved g c = record {
  count = let n = c.in-Ok.ensures.taken in omega (arith, c.in-Ok.ensures.count, c.loop-rest.invariant.count);
  sends =
      sends_front _ _ _ _ (g.S.Session.follow c.loop-rest.session) (g.S.Session.follow c.serve_front.new.session) _ _
      c.loop-rest.rest.now _ _ refl c.loop-rest.invariant.sends c.in-Ok.ensures.sends;
  sound = c.in-Ok.ensures.sound;
}

pub returns-in-Err-clause-cuts : goal.returns-in-Err-clause-cuts
returns-in-Err-clause-cuts g c = sends_cut _ _ _ _ _ c.loop-rest.invariant.sends c.in-Err.ensures.cuts

pub returns-clause-sends : goal.returns-clause-sends
returns-clause-sends g c =
    on_ok_weaker _
    (λ written. sends_end _ _ _ _ (g.S.Session.follow c.loop-rest.session) _ c.loop-rest.rest.now
    (eqb-true _ _ (sym c.loop-rest-test.ensures)) c.loop-rest.invariant.sends written) c.flush.ensures.written

pub returns-clause-cuts : goal.returns-clause-cuts
returns-clause-cuts g c =
    on_err_weaker _
    (λ cut. end_cut _ _ _ _ (λ more. g.S.Session.follow c.loop-rest.session (c.loop-rest.rest.now ++ more)) _ cut.0
    c.loop-rest.invariant.sends cut.1) c.flush.ensures.cut
