use Rattle.run_commands.specs.Commands.{is_space}
use Rattle.run_commands.proofs.LineLemmas.{found-before, found-behind, missing-before, missing-behind}
use Rattle.run_commands.proofs.commands.split_at_space.Goals as goal

pub returns-in-Some-clause-before : goal.returns-in-Some-clause-before
returns-in-Some-clause-before c = found-before is_space c.args.text.now _ c.in-Some.ensures

pub returns-in-Some-clause-behind : goal.returns-in-Some-clause-behind
returns-in-Some-clause-behind c = found-behind is_space c.args.text.now _ c.in-Some.ensures

pub returns-in-None-clause-before : goal.returns-in-None-clause-before
returns-in-None-clause-before c = missing-before is_space c.args.text.now c.in-None.ensures

pub returns-in-None-clause-behind : goal.returns-in-None-clause-behind
returns-in-None-clause-behind c = missing-behind is_space c.args.text.now c.in-None.ensures
