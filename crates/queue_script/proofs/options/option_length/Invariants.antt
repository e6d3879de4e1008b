use Rattle.std.proofs.Common.{◌≡◌, true, take}
use Rattle.std.specs.List.{list_all}
use Rattle.queue_script.specs.Options.{is_option_character}
use Rattle.queue_script.proofs.options.option_length.Given as goal

abbrev pub invariant-loop-i : goal.invariant-loop-i
invariant-loop-i l = list_all is_option_character (take l.i l.text) ≡ true
