use Rattle.std.proofs.Common.{subst}
use Rattle.macro_expressions.specs.Reading.{Gives}
use Rattle.macro_expressions.specs.Values.{Names, optional_at}
use Rattle.macro_statements.specs.Words.{scope_with}
use Rattle.macro_meaning.proofs.scopes.value_next.Goals as goal

pub returns : goal.returns
unfolding scope_with
returns c =
    let P : Names → Type 0 = λ names. Gives (λ z. (z, c.optional.new.front)) c.optional.result (optional_at (scope_with names) c.args.front.now) in
    subst P c.around.ensures c.optional.ensures
