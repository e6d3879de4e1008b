use Rattle.std.proofs.Common.{◌≡◌, ◌⊎◌, List, ℕ, inl, inr}
use Rattle.std.specs.Io.KnownBytes.{IsAtEnd}
use Rattle.script_io.specs.declared.failures.ServeFailure.TheVariants.{Memory}
use Rattle.script_io.proofs.ServeLemmas.{serves_stopped, serves_ended, goes_cut, goes_cut_short}
use Rattle.script_io.proofs.serving.serve_session.Goals as goal

pub returns-in-Err-finish-clause-serves : goal.returns-in-Err-finish-clause-serves
returns-in-Err-finish-clause-serves g c =
    serves_stopped _ _ _ _ (g.S.Session.follow c.args.session.now) Memory (goes_cut _ _ _ _ _ _ c.in-Ok.ensures.goes)

pub returns-in-Ok-flush-clause-serves : goal.returns-in-Ok-flush-clause-serves
returns-in-Ok-flush-clause-serves g c =
    let session = c.serve_pieces.new.session in
    let end : IsAtEnd (g.R.ByteIn.to_come c.serve_pieces.new.reader) ⊎ ((x y : List ℕ) → g.S.Session.follow session x ≡ g.S.Session.follow session y) =
    elim c.in-Ok.ensures.end [ inl a ↦ inl a | inr h ↦ inr (λ x y. g.met.S.Session.ends session x y h) ] in
    serves_ended _ _ _ _ _ (g.S.Session.follow c.args.session.now) (g.S.Session.follow session) _ _ _ c.in-Ok.ensures.goes end
    c.in-Ok.ensures.sound.1 c.in-Ok-finish.ensures c.in-Ok-flush.ensures.written

pub returns-clause-serves : goal.returns-clause-serves
returns-clause-serves g c =
    let cut = c.in-Err-flush.ensures.cut in
    serves_stopped _ _ _ _ (g.S.Session.follow c.args.session.now) _
    (goes_cut_short _ _ _ _ _ _ (g.S.Session.follow c.serve_pieces.new.session) _ _ _ _ c.in-Ok.ensures.goes
    c.in-Ok.ensures.sound.1 c.in-Ok-finish.ensures cut.1)
