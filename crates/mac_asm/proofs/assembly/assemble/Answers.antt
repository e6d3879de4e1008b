use Rattle.std.proofs.Common.{Err, ap, sym, ◌∙◌}
use Rattle.std.proofs.Math.Path.{subst}
use Rattle.std.proofs.lemmas.Result.{err_from_is_err_and}
use Rattle.mac_asm.specs.Outcome.{outcome_of}
use Rattle.mac_asm.specs.Filled.{Assembles}
use Rattle.mac_asm.proofs.assembly.assemble.Goals as goal

pub returns-in_err-listing : goal.returns-in_err-listing
returns-in_err-listing c =
    let error = err_from_is_err_and c.from_residual.result c.from_residual.ensures.1 in
    subst (λ r. Assembles r (outcome_of c.args.source.now)) (sym (error.1 ∙ ap Err error.2)) c.in_err-listing.ensures.image
