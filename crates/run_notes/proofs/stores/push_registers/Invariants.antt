use Rattle.std.proofs.Common.{◌≡◌, ◌-◌, ◌++◌, string_bytes}
use Rattle.std.specs.List.{flat_map, range_with_len}
use Rattle.run_notes.specs.Steps.{register_words, registers_words}
use Rattle.run_notes.proofs.stores.push_registers.Given as goal

-- the registers so far, and those that are left
abbrev pub invariant-loop-register : goal.invariant-loop-register
invariant-loop-register l =
    string_bytes l.text ++ flat_map (register_words l.machine.world l.job.number l.before) (range_with_len l.register (16 - l.register))
    ≡ string_bytes l.initial.text ++ registers_words l.machine.world l.job.number l.before
