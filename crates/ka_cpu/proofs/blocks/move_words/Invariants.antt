use Rattle.std.proofs.Common.{◌≡◌, ◌-◌, ◌+◌}
use Rattle.ka_cpu.specs.Blocks.{moved_words}
use Rattle.ka_cpu.proofs.blocks.move_words.Given as goal

abbrev pub invariant-loop-i : goal.invariant-loop-i
invariant-loop-i g l = record {
  moved : moved_words (l.count - l.i) (record { ac = l.regs.ac; core = g.M.ReadMemory.words l.memory }) (l.from + l.i) (l.to + l.i)
      ≡ moved_words l.count (record { ac = l.fn.regs.ac; core = g.M.ReadMemory.words l.fn.memory }) l.from l.to;
  kept : l.regs ≡ record l.fn.regs { ac = l.regs.ac };
  place : g.M.JobMemory.place l.memory ≡ g.M.JobMemory.place l.fn.memory;
}
