use Rattle.std.proofs.Common.{◌≡◌, ◌++◌, drop}
use Rattle.std.specs.List.{flat_map}
use Rattle.orders_program.specs.Scripts.{data_text}
use Rattle.orders_program.proofs.recording.push_data.Given as goal

-- the words so far and those to come are all
abbrev pub invariant-loop-word : goal.invariant-loop-word
invariant-loop-word l = l.script.items ++ flat_map data_text (drop l.word-index l.words) ≡ l.fn.script.items ++ flat_map data_text l.words
