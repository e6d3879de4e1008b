use Rattle.std.proofs.Common.{subst}
use Rattle.macro_expressions.specs.Reading.{Gives}
use Rattle.macro_expressions.specs.Values.{Names}
use Rattle.macro_statements.specs.Words.{words_by, scope_with}
use Rattle.macro_meaning.proofs.scopes.words_next.Goals as goal

pub returns : goal.returns
unfolding scope_with
returns c =
    let P : Names → Type 0 = λ names. Gives (λ words. (words.items, c.words_by.new.front)) c.words_by.result (words_by (scope_with names) c.args.meant c.args.front.now) in
    subst P c.around.ensures c.words_by.ensures
