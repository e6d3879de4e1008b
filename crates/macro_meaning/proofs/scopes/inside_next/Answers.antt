use Rattle.std.proofs.Common.{subst}
use Rattle.macro_expressions.specs.Reading.{Gives}
use Rattle.macro_expressions.specs.Values.{Names}
use Rattle.macro_statements.specs.Words.{inside_at, scope_with}
use Rattle.macro_meaning.proofs.scopes.inside_next.Goals as goal

pub returns : goal.returns
unfolding scope_with
returns c =
    let P : Names → Type 0 = λ names. Gives (λ z. (z, c.inside.new.front)) c.inside.result (inside_at (scope_with names) c.args.front.now) in
    subst P c.around.ensures c.inside.ensures
