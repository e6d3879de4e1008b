use Rattle.std.proofs.Common.{◌∙◌, ap}
use Rattle.std.specs.Prelude.{Some}
use Rattle.clap.specs.Words.{found_of}
use Rattle.clap.proofs.WalkLemmas.{first_value-rows}
use Rattle.command_line.specs.Arguments.{number_in}
use Rattle.command_line.proofs.arguments.number_of.Goals as goal

pub returns-in-None-clause-value : goal.returns-in-None-clause-value
returns-in-None-clause-value c = ap (number_in c.args.most) (c.in-None.ensures ∙ first_value-rows (found_of c.args.given.now) c.args.id.now)

pub returns-in-Some-clause-value : goal.returns-in-Some-clause-value
returns-in-Some-clause-value c = c.number_from_one.ensures.value ∙ ap (λ t. number_in c.args.most (Some t)) c.as_bytes.ensures.value
    ∙ ap (number_in c.args.most) (c.in-Some.ensures ∙ first_value-rows (found_of c.args.given.now) c.args.id.now)
