use Rattle.std.proofs.Common.{◌∙◌, ap, drop}
use Rattle.std.proofs.lemmas.List.{drop_min, take_rest}
use Rattle.macro_meaning.proofs.walk.from_position.Goals as goal

pub returns : goal.returns
returns c =
    let text = c.args.text.now in
    take_rest text c.min.result ∙ ap (λ n. drop n text) c.min.ensures ∙ drop_min c.args.at text
