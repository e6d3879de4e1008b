use Rattle.std.proofs.Common.{arith, ◌∙◌}
use Rattle.queue_script.proofs.OptionLemmas.{level_in_front}
use Rattle.queue_script.proofs.options.front_option.Goals as goal

pub returns-in-76-clause-option : goal.returns-in-76-clause-option
returns-in-76-clause-option c = level_in_front c.args.text.now c.new-level.result (omega arith) (omega arith) (omega arith) (omega arith) (c.new-level.ensures ∙ c.from.ensures)
