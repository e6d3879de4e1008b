use Rattle.std.proofs.Common.{◌≡◌, ◌<◌, ℕ, slice_index_or}
use Rattle.std.specs.Prelude.{unwrap_or}
use Rattle.machine.specs.Views.{word_in}
use Rattle.run_notes.proofs.snapshot.registers_of.Given as goal

abbrev pub invariant-loop-register : goal.invariant-loop-register
invariant-loop-register l =
    (k : ℕ) → k < l.register → slice_index_or l.registers k 0 ≡ unwrap_or (word_in l.machine.world l.number k) 0
