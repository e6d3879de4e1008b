use Rattle.std.proofs.Common.{◌≡◌, ◌∙◌, List, Option, true, refl, ap, sym, subst, map}
use Rattle.std.proofs.lemmas.Result.{err_from_is_err_and}
use Rattle.std.specs.Prelude.{IfSome}
use Rattle.clap.specs.Words.{Text, app_of, first_value, found_of, is_simple, is_simple_and_free, kind_of}
use Rattle.clap.specs.declared.error.Error.{Error}
use Rattle.lockcheck_program.specs.Arguments.{AreOptions, IsDue, app}
use Rattle.lockcheck_program.specs.declared.arguments.Options.{Options}
use Rattle.lockcheck_program.proofs.ArgumentLemmas.{app_is_simple, app_is_simple_and_free, asked, out_of_range, refused}
use Rattle.lockcheck_program.proofs.arguments.read_arguments.Goals as goal

pub returns-in_err-matches-clause-due : goal.returns-in_err-matches-clause-due
returns-in_err-matches-clause-due g c =
    let arguments = map g.S.AsStr.text c.args.arguments.now in
    let same = c.in_ok-command.ensures in
    let p = err_from_is_err_and c.from_residual-in_err-matches.result c.from_residual-in_err-matches.ensures.1 in
    let P : Error → Type 0 = λ e. IsDue (map g.S.AsStr.text c.args.arguments.now) (kind_of e) in
    rw p.1
    (subst P (sym p.2)
    (refused c.in_err-matches.field-0.0 (app_of c.in_ok-command.command) arguments same
    (c.in_err-matches.ensures.kinds (ap is_simple_and_free same ∙ app_is_simple_and_free))))

pub returns-in-Some-clause-asked : goal.returns-in-Some-clause-asked
returns-in-Some-clause-asked g c =
    let same = c.in_ok-command.ensures in
    let m = c.in_ok-matches.matches in
    let P : Option Options → Type 0 = λ o. IfSome o (AreOptions (first_value (found_of c.in_ok-matches.matches))) in
    asked (found_of m) (app_of c.in_ok-command.command) (map g.S.AsStr.text c.args.arguments.now) c.in-Some.options same
    (c.in_ok-matches.ensures.ok.2 (ap is_simple same ∙ app_is_simple)).0 (subst P c.in-Some.is c.in_ok-options.ensures.asked)

pub returns-clause-due : goal.returns-clause-due
returns-clause-due g c =
    let same = c.in_ok-command.ensures in
    out_of_range (found_of c.in_ok-matches.matches) (app_of c.in_ok-command.command) (map g.S.AsStr.text c.args.arguments.now)
    (kind_of c.in_ok-error-in-None.error) same (c.in_ok-matches.ensures.ok.2 (ap is_simple same ∙ app_is_simple)).0
    c.in_ok-error-in-None.ensures.kind (c.in_ok-options.ensures.wrong c.in-None.is)
