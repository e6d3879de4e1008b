use Rattle.std.proofs.Common.{◌≡◌, ◌++◌, drop, string_bytes}
use Rattle.std.specs.List.{flat_map}
use Rattle.run_notes.specs.FactWords.{status_words}
use Rattle.run_notes.proofs.fact_lines.push_locks.Given as goal

abbrev pub invariant-loop-want : goal.invariant-loop-want
invariant-loop-want l =
    string_bytes l.text ++ flat_map (status_words l.machine.world.requests l.job) (drop l.want-index l.wants)
    ≡ string_bytes l.initial.text ++ flat_map (status_words l.machine.world.requests l.job) l.wants
