use Rattle.std.proofs.Common.{◌≡◌, length}
use Rattle.queue_script.specs.Options.{options_from}
use Rattle.queue_script.proofs.options.read_options.Given as goal

abbrev pub invariant-loop-text : goal.invariant-loop-text
invariant-loop-text l = options_from l.options l.texts ≡ options_from l.initial.options l.initial.texts

abbrev pub decreases-loop-text : goal.decreases-loop-text
decreases-loop-text l = length l.texts
