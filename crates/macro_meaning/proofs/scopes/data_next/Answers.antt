use Rattle.std.proofs.Common.{subst}
use Rattle.macro_expressions.specs.Reading.{Gives}
use Rattle.macro_expressions.specs.Values.{Names}
use Rattle.macro_statements.specs.Words.{form_words, scope_with}
use Rattle.macro_meaning.proofs.scopes.data_next.Goals as goal

pub returns : goal.returns
unfolding scope_with
returns c =
    let P : Names → Type 0 = λ names. Gives (λ words. (words.items, c.form_words.new.front)) c.form_words.result (form_words (scope_with names) c.args.form c.args.front.now) in
    subst P c.around.ensures c.form_words.ensures
