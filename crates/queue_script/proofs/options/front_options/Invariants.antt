use Rattle.std.proofs.Common.{◌≤◌, ℕ, List, length}
use Rattle.queue_script.specs.Options.{no_options, SpellsOptions}
use Rattle.queue_script.specs.declared.options.Options.{Options}
use Rattle.queue_script.proofs.options.front_options.Given as goal

abbrev pub invariant-loop-option : goal.invariant-loop-option
invariant-loop-option l = record {
  goes_on : (last : Options) (others : List (List ℕ)) → SpellsOptions l.options l.rest last others → SpellsOptions no_options l.text last others;
  within : length l.rest ≤ length l.text;
}

abbrev pub decreases-loop-option : goal.decreases-loop-option
decreases-loop-option l = length l.rest
